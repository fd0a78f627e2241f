-- What a text prints byte by byte is the text divided.
use Rattle.cw_print.proofs.Terms.{List, ℕ, ◌++◌, ap, ◌∙◌, on_ok_weaker, rest_bytes, include_bytes}
use Rattle.cw_print.proofs.DividingLaws.{rest-divided}
use Rattle.cw_print.proofs.texts.put_include_name.Goals as goal

pub returns : goal.returns
returns c =
    let said : List ℕ = include_bytes c.args.text.now in
    on_ok_weaker c.put_include_rest.result (λ is. is ∙ ap (λ (l : List ℕ). c.args.out.now ++ l)
    ((λ i. rest_bytes (c.behind.ensures i) said) ∙ rest-divided said)) c.put_include_rest.ensures
