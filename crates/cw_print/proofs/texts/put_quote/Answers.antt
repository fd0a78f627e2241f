-- The two bytes of the code are the first of the text.
use Rattle.cw_print.proofs.Terms.{List, ℕ, [], ◌∷◌, ◌++◌, ap, ◌∙◌, append_assoc, on_ok_weaker, rest_bytes, string_bytes}
use Rattle.cw_print.proofs.DividingLaws.{rest-divided}
use Rattle.cw_print.proofs.texts.put_quote.Goals as goal

pub returns : goal.returns
returns c =
    let said : List ℕ = string_bytes c.args.text.now in
    on_ok_weaker c.put_string_rest.result (λ is. is
    ∙ ap (λ (l : List ℕ). l ++ rest_bytes c.behind.result said) c.in_ok-append.ensures.ok ∙ append_assoc c.args.out.now
    (64 ∷ 39 ∷ []) (rest_bytes c.behind.result said) ∙ ap (λ (l : List ℕ). c.args.out.now ++ l)
    ((λ i. 64 ∷ 39 ∷ rest_bytes (c.behind.ensures i) said) ∙ rest-divided (64 ∷ 39 ∷ said))) c.put_string_rest.ensures
