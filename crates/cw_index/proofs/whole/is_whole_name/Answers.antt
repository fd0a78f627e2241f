-- A name behind the text isn't whole.
use Rattle.cw_index.proofs.Terms.{arith}
use Rattle.cw_index.proofs.PlaceLaws.{whole-within}
use Rattle.cw_index.proofs.whole.is_whole_name.Goals as goal

pub returns-then-listed-text-clause-only : goal.returns-then-listed-text-clause-only
returns-then-listed-text-clause-only c = λ whole. absurd (omega (
  arith,
  whole-within c.args.text.now c.args.listed whole,
  c.if-listed-text.true,
))
