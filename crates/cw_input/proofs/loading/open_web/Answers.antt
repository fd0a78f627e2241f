-- What is read of the first file that is there.
use Rattle.std.proofs.Common.{arith}
use Rattle.cw_input.proofs.ReadLaws.{reads_first-then, reads_on-more}
use Rattle.cw_input.proofs.loading.open_web.Goals as goal

pub returns-in-Ok-Some-clause-most : goal.returns-in-Ok-Some-clause-most
returns-in-Ok-Some-clause-most g c =
    reads_on-more (omega arith) (rw c.in-Ok-Some.field-0-is at (c.in-Ok-Some.ensures.most 0))

pub returns-in-Ok-None-clause-most : goal.returns-in-Ok-None-clause-most
returns-in-Ok-None-clause-most g c =
    reads_first-then (g.D.Desk.told c.open_second.new.desk) c.open_second.result c.open_second.ensures.same.narrows
    (rw c.in-Ok-None.field-0-is at (c.in-Ok-None.ensures.most 0)) c.open_second.ensures.most

pub returns-in-Err-clause-most : goal.returns-in-Err-clause-most
returns-in-Err-clause-most g c = reads_on-more (omega arith) (c.in-Err.ensures.most 0)
