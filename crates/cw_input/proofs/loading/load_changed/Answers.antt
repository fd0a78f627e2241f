-- What is read of the web's file, and then of the change file and of those that are included.
use Rattle.cw_input.proofs.ReadLaws.{reads_on-then}
use Rattle.std.proofs.Common.{arith}
use Rattle.cw_input.proofs.loading.load_changed.Goals as goal

pub returns-in-Ok-clause-most : goal.returns-in-Ok-clause-most
returns-in-Ok-clause-most g c = grind (arith, reads_on-then)
