-- The byte before a place is the last of those that stand before it.
use Rattle.std.proofs.Common.{arith}
use Rattle.cw_lex.proofs.White.{last-byte}
use Rattle.cw_lex.proofs.code_text.last_at.Goals as goal

pub returns-else-at-eq0 : goal.returns-else-at-eq0
returns-else-at-eq0 c = last-byte c.args.text.now c.args.at (omega arith) c.requires
