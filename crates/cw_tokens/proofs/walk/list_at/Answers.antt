-- The tokens from where a list begins up to where it ends lie in the vector, and are that list.
use Rattle.cw_tokens.proofs.Terms.{◌∙◌, arith}
use Rattle.cw_tokens.proofs.Cutting.{spans, list-is}
use Rattle.cw_tokens.proofs.walk.list_at.Goals as goal

pub between-requires-clause-order : goal.between-requires-clause-order
between-requires-clause-order c =
    let s = spans 0 c.args.ends.now c.args.list c.requires.ascending c.requires.list in rw c.start.ensures s.order

pub between-requires-clause-within : goal.between-requires-clause-within
between-requires-clause-within c =
    let s = spans 0 c.args.ends.now c.args.list c.requires.ascending c.requires.list in
    omega (arith, s.high, c.requires.within)

pub returns : goal.returns
returns c = c.between.ensures ∙ list-is _ _ _ _ c.requires.ascending c.requires.list c.start.ensures
