-- The joiner prints the word, and at the end nothing more.
use Rattle.cw_mini.proofs.Terms.{◌≡◌, ◌∙◌, ℕ, List, [], ◌∷◌, ◌++◌, ap, length, refl, append-nil, on_ok_weaker, OnOk}
use Rattle.cw_mini.proofs.Terms.{late, alone, item_bytes}
use Rattle.cw_mini.proofs.WordLaws.{word-added, word-closed, word-comes, word-late}
use Rattle.cw_mini.proofs.names.append_item.Goals as goal

pub append-requires : goal.append-requires
append-requires c = record {
  come = word-comes (length c.args.names.now) c.new-joiner.result.depth c.args.item c.requires;
}

pub append_end-requires : goal.append_end-requires
append_end-requires c = record {
  closed = (c.in_ok-append.ensures.stands [] (alone c.args.names.now c.args.item) c.new-joiner.ensures.stands
      refl).depth ∙ word-closed c.args.names.now (length c.args.names.now) c.args.item c.requires;
}

pub returns : goal.returns
returns c =
    let names = c.args.names.now in
    let count : ℕ = length names in
    let item = c.args.item in
    let first : c.append.new.out ≡ c.args.line.now ++ (item_bytes names item []) = c.in_ok-append.ensures.bytes []
    c.new-joiner.ensures.stands ∙ ap (λ (more : List ℕ). c.args.line.now ++ more)
    (word-added names count c.new-joiner.result.inner item c.requires c.new-joiner.ensures.inner) in
    let ended : OnOk c.append_end.result (c.append_end.new.out ≡ c.append.new.out ++ late c.append.new.self.inner
    (alone names item ∷ [])) = c.append_end.ensures.bytes (alone names item ∷ [])
    (c.in_ok-append.ensures.stands [] (alone names item) c.new-joiner.ensures.stands refl) in
    on_ok_weaker c.append_end.result (λ e. e
    ∙ ap (λ (more : List ℕ). c.append.new.out ++ more) (word-late names count c.append.new.self.inner item c.requires
    (c.in_ok-append.ensures.inner ∙ c.new-joiner.ensures.inner)) ∙ append-nil c.append.new.out ∙ first) ended
