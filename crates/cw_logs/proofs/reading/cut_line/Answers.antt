-- A line ends at the first byte 10.
use Rattle.cw_logs.proofs.Terms.{arith, take_rest}
use Rattle.cw_logs.proofs.WordLaws.{line-at, line-nowhere}
use Rattle.cw_logs.proofs.reading.cut_line.Goals as goal

pub returns-in-Some : goal.returns-in-Some
returns-in-Some c = grind (arith, take_rest, line-at)

pub returns-in-None : goal.returns-in-None
returns-in-None c = line-nowhere _ c.requires (λ k below. c.in-None.ensures k (omega arith) below)
