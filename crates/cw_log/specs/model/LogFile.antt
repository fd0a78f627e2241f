-- What is found of the file of a log.
use Rattle.std.specs.Prelude.{◌≡◌, ℕ, ◌<◌, ◌≤◌, List, length, Option, Some, None}
use Rattle.cw_log.specs.declared.file.LogFile.{LogFile}
use Rattle.cw_log.specs.declared.file.LogFile.TheVariants.{Missing, TooLong, Whole}
use Rattle.cw_log.specs.declared.file.TheConstants.{LOG_LIMIT}

abbrev pub IsFileOf : Option (List ℕ) → LogFile → Type 0
IsFileOf file Missing = file ≡ None
IsFileOf file TooLong = (bytes : List ℕ) × (file ≡ Some bytes) × (LOG_LIMIT < length bytes)
IsFileOf file (Whole bytes) = file ≡ Some bytes

-- A file that was read whole isn't too long.
abbrev pub IsShort : LogFile → Type 0
IsShort Missing = Unit {0}
IsShort TooLong = Unit {0}
IsShort (Whole bytes) = length bytes ≤ LOG_LIMIT
