-- A code that takes a section name is cut with the name behind it.
use Rattle.std.proofs.Common.{arith}
use Rattle.cw_rules.proofs.Cuts.{name-cut}
use Rattle.cw_rules.proofs.cuttings.code_token.Goals as goal

pub returns-then-at-text-clause-same : goal.returns-then-at-text-clause-same
returns-then-at-text-clause-same c = grind (arith, name-cut)
