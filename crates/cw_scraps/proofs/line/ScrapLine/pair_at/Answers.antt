-- `pair_at`: clause `second` on one of its ways; said here, so that a wrong one fails at once.
use Rattle.cw_scraps.proofs.Terms.{arith, common_steps}
use Rattle.cw_scraps.proofs.line.ScrapLine.pair_at.Goals as goal

pub returns-then-self-place-gt1-clause-second : goal.returns-then-self-place-gt1-clause-second
returns-then-self-place-gt1-clause-second c = grind (arith, common_steps)
