-- The models beside `specs/Mem`.
use Rattle.std.specs.Prelude.{◌==◌, ℕ, ◌+◌, ◌-◌, ◌^◌, Bool, List, [], ◌∷◌, if◌then◌else◌, min, length, slice_index, ◌≡◌}
use Rattle.std.specs.Prelude.{slice_index_or}
use Rattle.std.specs.FinMap.{from_entries}
use Rattle.std.specs.List.{list_any}
use Rattle.cw_desk.specs.Meaning.{Files}
use Rattle.cw_desk.specs.State.{DeskState}
use Rattle.cw_desk.specs.Mem.{MemState}

-- the files as a map: a name has the bytes that it was given last
abbrev pub files_of : MemState → Files
files_of d = from_entries d.files

-- what it tells: its own files alone agree with it
abbrev pub tell_mem : MemState → DeskState
tell_mem d = record {
  opened = length d.rests;
  outputs = d.outputs;
  agrees = λ files. files ≡ files_of d;
  rest = λ files i. slice_index_or d.rests i [];
  came = d.came;
  journal = d.journal;
  handed = 0;
  faults = d.faults;
  names = [];
}

-- one more, but a count of 64 bits stands still at its end
abbrev pub counted : ℕ → ℕ
counted n = min (n + 1) (2 ^ 64 - 1)

-- whether the next call is one of those that are to fail
abbrev pub fails_next : MemState → Bool
fails_next d = list_any (λ n. n == counted d.calls) d.failing

-- the desk once the next call has been counted
abbrev pub called : MemState → MemState
called d = record d { calls = counted d.calls; faults = (if fails_next d then counted d.faults else d.faults) }

-- the same for a read or a put
abbrev pub moved : MemState → MemState
moved d = record (called d) { moves = counted d.moves }

-- how many of `most` bytes the next read or put moves: the last size stands for all later ones, and without sizes there
-- is no bound
abbrev pub allowed_by : List ℕ → ℕ → ℕ → ℕ
allowed_by [] k most = most
allowed_by (size ∷ sizes) k most = min most (slice_index (size ∷ sizes) (min k (length sizes)))

abbrev pub allowed : MemState → ℕ → ℕ
allowed d most = allowed_by d.sizes d.moves most
