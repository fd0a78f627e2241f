-- What stands before the first `@` or bar, or all.
use Rattle.std.proofs.Common.{sym}
use Rattle.cw_lex.proofs.TexRuns.{tex-first, tex-all}
use Rattle.cw_lex.proofs.plain.tex_size.Goals as goal

pub returns-in-Some-clause-value : goal.returns-in-Some-clause-value
returns-in-Some-clause-value c = sym (tex-first c.args.bytes.now c.in-Some.size c.in-Some.ensures.0 c.in-Some.ensures.1)

pub returns-in-None-clause-value : goal.returns-in-None-clause-value
returns-in-None-clause-value c = sym (tex-all c.args.bytes.now c.in-None.ensures)
