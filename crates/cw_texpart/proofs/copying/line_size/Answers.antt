-- No byte 10 comes before the first one.
use Rattle.cw_texpart.proofs.Terms.{length}
use Rattle.cw_lines.proofs.Appending.{none-before}
use Rattle.cw_texpart.proofs.copying.line_size.Goals as goal

pub returns-in-Some-clause-none : goal.returns-in-Some-clause-none
returns-in-Some-clause-none c = none-before c.args.bytes.now c.in-Some.size c.in-Some.ensures.0.before

pub returns-in-None-clause-none : goal.returns-in-None-clause-none
returns-in-None-clause-none c = none-before c.args.bytes.now (length c.args.bytes.now) c.in-None.ensures
