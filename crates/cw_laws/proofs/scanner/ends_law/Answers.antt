-- Each text goes up to its end.
use Rattle.cw_laws.proofs.Ends.{texts-go-to-their-ends}
use Rattle.cw_laws.proofs.scanner.ends_law.Goals as goal

pub returns : goal.returns
returns c = texts-go-to-their-ends
