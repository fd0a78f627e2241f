-- One name more stands behind those so far.
use Rattle.cw_reduce.proofs.Terms.{◌≡◌, ℕ, ◌+◌, ◌<◌, Option, Some, None, List, [], ◌∷◌, ◌++◌, append_assoc, arith}
use Rattle.cw_reduce.proofs.Terms.{get_or, length, option_map, take, ◌∙◌, append-nil, take_more, StoredToken as Token}
use Rattle.cw_reduce.proofs.Terms.{name_in_text, names_in_text, names-append}
use Rattle.cw_reduce.proofs.HeadMakes.{word-plain}
use Rattle.cw_reduce.proofs.heads.push_names.Goals as goal

more-names : (o now new : Option (List Token)) (ws : List Token) (i : ℕ) (d : Token) → i < length ws → now ≡ option_map
    (λ ts. ts ++ names_in_text (take i ws)) o → new ≡ option_map (λ ts. ts ++ name_in_text (get_or ws i d)) now
    → new ≡ option_map (λ ts. ts ++ names_in_text (take (i + 1) ws)) o
more-names None now new ws i d h e f = rw (f, e)
more-names (Some ts) now new ws i d h e f =
    let one = name_in_text (get_or ws i d) in
    rw (
      f,
      e,
      take_more ws i d h,
      names-append (take i ws) (get_or ws i d ∷ []),
      append-nil one,
      append_assoc ts (names_in_text (take i ws)) one,
    )

pub push_name-requires-clause-plain : goal.push_name-requires-clause-plain
push_name-requires-clause-plain c = word-plain c.args.words.now c.loop-word.word-index _ c.requires.plain
    c.loop-word-test.true

pub loop-word-preserved : goal.loop-word-preserved
loop-word-preserved c = (
  more-names c.args.store.now.building c.loop-word.store.building c.push_name.new.store.building c.args.words.now
      c.loop-word.word-index _ c.loop-word-test.true c.loop-word.invariant.0 c.push_name.ensures.building,
  c.push_name.ensures.lists ∙ c.loop-word.invariant.1,
  omega (arith, c.push_name.ensures.spare, c.loop-word.invariant.2),
)
