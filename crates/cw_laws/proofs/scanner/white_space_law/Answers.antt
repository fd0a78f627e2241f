-- Between the bytes of answers stands only white space, and a backslash only in a `#` line.
use Rattle.cw_laws.proofs.WhiteSpace.{backslashes-continue}
use Rattle.cw_laws.proofs.scanner.white_space_law.Goals as goal

pub returns : goal.returns
returns c = backslashes-continue
