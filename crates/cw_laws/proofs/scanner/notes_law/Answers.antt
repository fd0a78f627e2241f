-- Each note is about a byte of what was scanned.
use Rattle.cw_laws.proofs.NotePlaces.{notes-lie}
use Rattle.cw_laws.proofs.scanner.notes_law.Goals as goal

pub returns : goal.returns
returns c = notes-lie
