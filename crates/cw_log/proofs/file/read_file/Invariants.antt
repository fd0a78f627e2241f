-- The bytes so far and what is unread are the file.
use Rattle.cw_log.proofs.Terms.{◌≡◌, ◌+◌, ◌-◌, ◌<◌, ◌≤◌, ◌++◌, length}
use Rattle.cw_desk.specs.Meaning.{Files}
use Rattle.cw_input.specs.Reading.{ReadsOnly}
use Rattle.cw_log.proofs.file.read_file.Given as goal

abbrev pub invariant-reading : goal.invariant-reading
invariant-reading g l = let told = g.D.Desk.told in record {
  given : l.id.index < (told l.desk).opened;
  rest : (files : Files) → (told l.desk).agrees files → (told l.fn.desk).rest files l.id.index
      ≡ l.bytes ++ (told l.desk).rest files l.id.index;
  most : length l.bytes ≤ 67108865;
  room : length l.portion ≡ 16384;
  same : ReadsOnly l.id.index (told l.fn.desk) (told l.desk);
}

abbrev pub decreases-reading : goal.decreases-reading
decreases-reading g l = 67108865 - length l.bytes
