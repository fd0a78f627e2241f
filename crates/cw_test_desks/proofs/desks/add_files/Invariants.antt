-- No file is opened.
use Rattle.std.proofs.Common.{◌≡◌, []}
use Rattle.cw_test_desks.proofs.desks.add_files.Given as goal

abbrev pub invariant-loop-name : goal.invariant-loop-name
invariant-loop-name l = l.desk.rests ≡ []
