-- Plain text of simple tokens is scanned as they are.
use Rattle.cw_plain_laws.proofs.ScannedAgain.{plain-scans-again}
use Rattle.cw_plain_laws.proofs.laws.again_law.Goals as goal

pub returns : goal.returns
returns c = plain-scans-again
