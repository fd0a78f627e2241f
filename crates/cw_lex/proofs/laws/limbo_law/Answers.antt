-- No answer over limbo is a section name.
use Rattle.cw_lex.proofs.LimboNames.{limbo-has-no-names}
use Rattle.cw_lex.proofs.laws.limbo_law.Goals as goal

pub returns : goal.returns
returns c = limbo-has-no-names
