-- A colon ends a folder, and each other byte is one more of it.
use Rattle.cw_desk.proofs.Terms.{arith}
use Rattle.std.proofs.lemmas.Bool.Decides.{nat_tests}
use Rattle.cw_desk.proofs.PlaceLaws.{byte-next, colon-next}
use Rattle.cw_desk.proofs.places.add_folders.Goals.{then-list-at-eq58+in_ok-add_folder, else-list-at-eq58}
use Rattle.cw_desk.proofs.places.add_folders.Goals as goal

pub loop-at-preserved : goal.loop-at-preserved
loop-at-preserved c = elim c.if-list-at-eq58.branch [
  | then-list-at-eq58+in_ok-add_folder w ↦ record {
    within = omega (arith, w.from-is);
    folders = colon-next c.loop-at.folders.items _ c.args.list.now c.loop-at.from c.loop-at.at _ _
        c.loop-at.invariant.within c.loop-at-test.true w.if-list-at-eq58.true w.from-is
        (grind (arith, w.folders-is, w.in_ok-add_folder.ensures)) c.loop-at.invariant.folders;
  }
  | else-list-at-eq58 w ↦ record {
    within = omega (arith, w.from-is, c.loop-at.invariant.within);
    folders = byte-next c.loop-at.folders.items _ c.args.list.now c.loop-at.from c.loop-at.at _ _
        c.loop-at.invariant.within c.loop-at-test.true (grind (arith, nat_tests, w.if-list-at-eq58.false)) w.from-is
        (grind (arith, w.folders-is)) c.loop-at.invariant.folders;
  }
]
