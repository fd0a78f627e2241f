-- Where calm C text ends that no bar ends, nothing is open, so no answer comes.
use Rattle.std.proofs.Common.{arith}
use Rattle.cw_lex.proofs.Calm.{calm-end}
use Rattle.cw_lex.proofs.short.end.Goals as goal

pub returns : goal.returns
returns c = grind (arith, calm-end)
