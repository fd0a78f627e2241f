-- White space, or one dot more, leaves it to the rest of the name whether it is void.
use Rattle.std.proofs.Common.{arith}
use Rattle.cw_rules.proofs.Void.{white-step, dot-step}
use Rattle.cw_rules.proofs.names.next_step.Goals as goal

pub returns-then-has-clause-value : goal.returns-then-has-clause-value
returns-then-has-clause-value c = grind (arith, white-step)

pub returns-clause-value : goal.returns-clause-value
returns-clause-value c = dot-step c.args.dots c.args.bytes.now c.requires.some c.if-byte-ne46.false (omega arith)
