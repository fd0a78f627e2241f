-- The blocks of the texts so far are written.
use Rattle.cw_log.proofs.Terms.{length, source_of}
use Rattle.cw_log.proofs.WritingLaws.{Written}
use Rattle.cw_log.proofs.writing.write_texts.Given as goal

abbrev pub invariant-all : goal.invariant-all
invariant-all g l = let told = g.D.Desk.told in
    Written (source_of l.source) l.fn.texts l.texts l.fn.work.names.now l.work.names.now (told l.fn.desk) (told l.desk)

abbrev pub decreases-all : goal.decreases-all
decreases-all g l = length l.texts
