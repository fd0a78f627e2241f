-- Files that don't change, read by calls in any order; and what files have that agree with such answers.
use Rattle.std.specs.Prelude.{◌≡◌, ◌⊎◌, ℕ, ◌+◌, ◌==◌, List, [], ◌∷◌, ◌++◌, Some, None, Option, if◌then◌else◌, drop}
use Rattle.std.specs.Prelude.{take}
use Rattle.std.specs.FinMap.{get}
use Rattle.cw_desk.specs.Answer.{Agree, Answer, NoneAgree, Opened, Missing, Read, End}
use Rattle.cw_desk.specs.Meaning.{Files}

-- ## Calls on files, and their answers

-- what a reader asks for
pub data Request : Type 0 where
  OpenFile : List ℕ → Request  -- the file of this name
  ReadBytes : ℕ → ℕ → Request  -- of the file of this number, at most so many of the next bytes

-- what was read so far
pub record SoFar : Type 0 where
  pub opened : ℕ  -- how many files were opened
  pub unread : ℕ → List ℕ  -- what is unread of the file of each number
  pub answers : List Answer  -- the newest first

abbrev pub nothing_read : SoFar
nothing_read = record { opened = 0; unread = λ i. []; answers = [] }

-- A file that is there is opened under the next number, all of it unread; else it is missing.
abbrev pub once_opened : List ℕ → Option (List ℕ) → SoFar → SoFar
once_opened name (Some bytes) r = record {
  opened = r.opened + 1;
  unread = λ i. if i == r.opened then bytes else r.unread i;
  answers = Opened r.opened name ∷ r.answers;
}
once_opened name None r = record r { answers = Missing name ∷ r.answers }

-- The next bytes come of what is unread, and nothing more where nothing is.
abbrev pub once_read : ℕ → ℕ → List ℕ → SoFar → SoFar
once_read number size [] r = record r { answers = End number ∷ r.answers }
once_read number size (byte ∷ bytes) r = record {
  opened = r.opened;
  unread = λ i. if i == number then drop size (byte ∷ bytes) else r.unread i;
  answers = Read number (take size (byte ∷ bytes)) ∷ r.answers;
}

abbrev pub once_called : Files → Request → SoFar → SoFar
once_called files (OpenFile name) r = once_opened name (get files name) r
once_called files (ReadBytes number size) r = once_read number size (r.unread number) r

-- what was read once all these calls were made, the newest call first
abbrev pub read_of : Files → List Request → SoFar
read_of files [] = nothing_read
read_of files (call ∷ older) = once_called files call (read_of files older)

-- ## What was read of a file

-- the name under which the file of a number was opened
abbrev pub opened_name : ℕ → List Answer → Option (List ℕ)
opened_name i [] = None
opened_name i (Opened j name ∷ older) = if i == j then Some name else opened_name i older
opened_name i (Missing name ∷ older) = opened_name i older
opened_name i (Read j bytes ∷ older) = opened_name i older
opened_name i (End j ∷ older) = opened_name i older

-- the bytes that came of it since then
abbrev pub bytes_come : ℕ → List Answer → List ℕ
bytes_come i [] = []
bytes_come i (Opened j name ∷ older) = if i == j then [] else bytes_come i older
bytes_come i (Missing name ∷ older) = bytes_come i older
bytes_come i (Read j bytes ∷ older) = if i == j then bytes_come i older ++ bytes else bytes_come i older
bytes_come i (End j ∷ older) = bytes_come i older

-- Among the answers the file of this name was read to its end, which these bytes are.
pub record WasRead (name bytes : List ℕ) (answers : List Answer) : Type 0 where
  pub number : ℕ
  pub later : List Answer
  pub older : List Answer
  pub ended : answers ≡ later ++ End number ∷ older
  pub named : opened_name number older ≡ Some name
  pub read : bytes_come number older ≡ bytes

-- ## The laws

-- Files agree with all answers that are read off them.
abbrev pub FilesAgreeWithThemselves : Type 0
FilesAgreeWithThemselves = (files : Files) (calls : List Request) → Agree (read_of files calls).answers files

-- Where a file was read to its end, files that agree have just these bytes under its name, whatever was answered
-- besides.
abbrev pub WhatWasReadIsThere : Type 0
WhatWasReadIsThere =
    (answers : List Answer) (name bytes : List ℕ) (files : Files) → WasRead name bytes answers → Agree answers files
    → get files name ≡ Some bytes

-- And where a name was missing, they have no file of it.
abbrev pub WhatWasMissingIsNotThere : Type 0
WhatWasMissingIsNotThere =
    (later older : List Answer) (name : List ℕ) (files : Files) → Agree (later ++ Missing name ∷ older) files
    → get files name ≡ None

-- Whatever the answers are, some files agree with them, or none do.
abbrev pub SomeAgreeOrNone : Type 0
SomeAgreeOrNone = (answers : List Answer) → ((files : Files) × Agree answers files) ⊎ NoneAgree answers
