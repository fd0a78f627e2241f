-- What is read of the file that is there.
use Rattle.std.proofs.Common.{arith}
use Rattle.cw_input.proofs.ReadLaws.{reads_on-more}
use Rattle.cw_input.proofs.loading.open_second.Goals as goal

pub returns-in-Ok-Some-clause-most : goal.returns-in-Ok-Some-clause-most
returns-in-Ok-Some-clause-most g c =
    reads_on-more (omega arith) (rw c.in-Ok-Some.field-0-is at (c.in-Ok-Some.ensures.most 0))

pub returns-in-Ok-None-clause-most : goal.returns-in-Ok-None-clause-most
returns-in-Ok-None-clause-most g c =
    reads_on-more {b = 0} (omega arith) (rw c.in-Ok-None.field-0-is at (c.in-Ok-None.ensures.most 0))

pub returns-in-Err-clause-most : goal.returns-in-Err-clause-most
returns-in-Err-clause-most g c = reads_on-more (omega arith) (c.in-Err.ensures.most 0)
