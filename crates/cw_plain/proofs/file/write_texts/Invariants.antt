-- The texts so far are written.
use Rattle.cw_plain.proofs.Terms.{length}
use Rattle.cw_plain.proofs.FileLaws.{Written}
use Rattle.cw_plain.proofs.file.write_texts.Given as goal

abbrev pub invariant-all : goal.invariant-all
invariant-all g l = let told = g.D.Desk.told in
    Written l.fn.each l.each l.fn.names l.names (told l.fn.desk) (told l.desk)

abbrev pub decreases-all : goal.decreases-all
decreases-all g l = length l.each.coming
