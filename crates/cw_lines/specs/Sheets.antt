-- What a call does that prints on a sheet: a line of output, with the desk that it is written to.
use Rattle.std.specs.Prelude.{◌≡◌, ℕ, List, Result}
use Rattle.cw_desk.specs.State.{DeskState}
use Rattle.cw_lines.specs.Writes.{CanWrite, Puts}
use Rattle.cw_lines.specs.declared.put_error.PutError.{PutError}
use Rattle.cw_lines.specs.declared.sheet.Sheet.{Sheet}

-- the line and the desk are those that it began with
pub record IsSameSheet {D : Type 0} (old new : Sheet D) : Type 0 where
  pub line : new.line.ghost_name ≡ old.line.ghost_name
  pub desk : new.desk.ghost_name ≡ old.desk.ghost_name

-- the line can be written to the desk, by what the desk tells
abbrev pub CanPrint : {D : Type 0} → (D → DeskState) → Sheet D → Type 0
CanPrint told sheet = CanWrite (told sheet.desk.now) sheet.line.now

-- A call has put these bytes to the line of the sheet, as `Puts` says it, and the sheet is the same.
pub record Prints {D T : Type 0} (told : D → DeskState) (bytes : List ℕ) (old new : Sheet D)
    (result : Result T PutError)
    : Type 0 where
  pub puts : Puts bytes old.line.now new.line.now (told old.desk.now) (told new.desk.now) result
  pub same : IsSameSheet old new
