-- All bytes of each file are written, and with flag k files that are there already are kept.
use Rattle.cw_laws.proofs.FileLaws.{files-whole}
use Rattle.cw_laws.proofs.files.files_law.Goals as goal

pub returns : goal.returns
returns c = files-whole
