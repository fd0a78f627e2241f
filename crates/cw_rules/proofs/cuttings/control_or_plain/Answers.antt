-- A code that takes a control text is cut with the text behind it.
use Rattle.std.proofs.Common.{arith}
use Rattle.cw_rules.proofs.Cuts.{control-cut}
use Rattle.cw_rules.proofs.cuttings.control_or_plain.Goals as goal

pub returns-then-at-text-clause-same : goal.returns-then-at-text-clause-same
returns-then-at-text-clause-same c = grind (arith, control-cut)
