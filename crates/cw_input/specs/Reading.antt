-- How reading changes what a desk tells, and how much is read of one file and of all files together.
use Rattle.std.specs.Prelude.{◌≡◌, ◌≢◌, ℕ, ◌+◌, ◌≤◌, List, [], ◌∷◌, ◌++◌, length, sum_by, Option, Some, None, Result}
use Rattle.std.specs.Prelude.{Ok, Err}
use Rattle.std.specs.FinMap.{get}
use Rattle.cw_base.specs.declared.limits.TheConstants.{INPUT_LIMIT}
use Rattle.cw_desk.specs.Meaning.{Files}
use Rattle.cw_desk.specs.State.{DeskState, Narrows}
use Rattle.cw_input.specs.declared.error.LoadError.{LoadError}
use Rattle.cw_input.specs.declared.found.InputFile.{InputFile}

-- The reading of one opened file changes what of this file is unread. Bytes may have come, fewer files may agree with
-- the desk, and the counts of faults and of what was handed on may rise.
pub record ReadsOnly (index : ℕ) (old new : DeskState) : Type 0 where
  pub same_names : new.names ≡ old.names
  pub same_opened : new.opened ≡ old.opened
  pub same_outputs : new.outputs ≡ old.outputs
  pub narrows : Narrows old new
  pub other_rests : (files : Files) (i : ℕ) → i ≢ index → new.rest files i ≡ old.rest files i
  pub came_kept : old.came ≤ new.came
  pub same_journal : new.journal ≡ old.journal
  pub handed_kept : old.handed ≤ new.handed
  pub faults_kept : old.faults ≤ new.faults

-- At most so many bytes were read of a file, of which the first was unread before, and the second is unread now.
abbrev pub ReadsAtMost : ℕ → List ℕ → List ℕ → Type 0
ReadsAtMost most before now = (read : List ℕ) × (before ≡ read ++ now) × (length read ≤ most)

-- how many bytes of a file are read, of which no more than so many may be: all of them; at an error one more than may
-- be, or fewer
abbrev pub most_read : ℕ → Result (List ℕ) LoadError → ℕ
most_read room (Ok bytes) = length bytes
most_read room (Err error) = room + 1

-- ## All files together

-- Of each file that was opened, from this number on, just these bytes were read: a file begins with them, and the rest
-- of it is unread.
abbrev pub AreRead : Files → DeskState → ℕ → List (List ℕ) → Type 0
AreRead files told first [] = told.opened ≡ first
AreRead files told first (bytes ∷ more) =
    ((name : List ℕ) × (get files name ≡ Some (bytes ++ told.rest files first))) × AreRead files told (first + 1) more

-- Of all files together that were opened, from this number on, at most so many bytes were read.
pub record HasRead (files : Files) (first most : ℕ) (told : DeskState) : Type 0 where
  pub read : List (List ℕ)
  pub each : AreRead files told first read
  pub within : sum_by length read ≤ most

-- In these calls at most so many bytes came, whether any files agree or none.
abbrev pub CameAtMost : ℕ → DeskState → DeskState → Type 0
CameAtMost most old new = new.came ≤ old.came + most

-- Calls after which at most so many bytes have been read in all, if at most so many had been before them: of files that
-- agree, and, whether any do, by the bytes that came.
pub record ReadsOn (before now : ℕ) (old new : DeskState) : Type 0 where
  pub came : new.came + before ≤ old.came + now
  pub most : (files : Files) → new.agrees files → (first : ℕ) → HasRead files first before old
      → HasRead files first now new

-- A call that looks for a file, when so many bytes had been read, and so many more may be: of a file that is there it
-- reads all, and at an error at most one byte more than may be read.
abbrev pub ReadsFound : ℕ → ℕ → DeskState → DeskState → Result (Option InputFile) LoadError → Type 0
ReadsFound sum room old new (Ok None) = ReadsOn sum sum old new
ReadsFound sum room old new (Ok (Some file)) = ReadsOn sum (sum + length file.bytes) old new
ReadsFound sum room old new (Err error) = ReadsOn sum (sum + (room + 1)) old new

-- the same of the first file
abbrev pub ReadsFirst : DeskState → DeskState → Result InputFile LoadError → Type 0
ReadsFirst old new (Ok file) = ReadsOn 0 (length file.bytes) old new
ReadsFirst old new (Err error) = ReadsOn 0 (INPUT_LIMIT + 1) old new

-- calls that lead from one sum of bytes to another; at an error they read at most one byte past the limit on input
abbrev pub ReadsTo : {T : Type 0} → ℕ → ℕ → DeskState → DeskState → Result T LoadError → Type 0
ReadsTo before now old new (Ok value) = ReadsOn before now old new
ReadsTo before now old new (Err error) = ReadsOn before (INPUT_LIMIT + 1) old new
