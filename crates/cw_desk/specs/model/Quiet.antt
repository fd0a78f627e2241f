-- The models beside `specs/Quiet`.
use Rattle.std.specs.Prelude.{[]}
use Rattle.cw_desk.specs.Mem.{MemState}
use Rattle.cw_desk.specs.model.Mem.{tell_mem}
use Rattle.cw_desk.specs.State.{DeskState}
use Rattle.cw_desk.specs.Quiet.{QuietState}

-- the desk in memory that it is
abbrev pub as_mem : QuietState → MemState
as_mem d = record {
  files = d.files;
  rests = d.rests;
  came = d.came;
  outputs = d.outputs;
  journal = d.journal;
  failing = [];
  sizes = d.sizes;
  calls = d.calls;
  moves = d.moves;
  faults = 0;
}

-- what it tells: its own files alone agree with it, and there is no fault
abbrev pub tell_quiet : QuietState → DeskState
tell_quiet d = tell_mem (as_mem d)
