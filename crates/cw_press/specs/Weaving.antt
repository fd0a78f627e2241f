-- What a call that prints pieces of a book has done.
use Rattle.std.specs.Prelude.{◌≡◌, ℕ, ◌+◌, ◌≤◌, ◌==◌, true, List, [], ◌++◌, Result, IfOk, OnOk, map, take}
use Rattle.std.specs.Prelude.{if◌then◌else◌}
use Rattle.cw_desk.specs.State.{DeskState}
use Rattle.cw_lines.specs.Line.{LineState}
use Rattle.cw_lines.specs.Writes.{Puts}
use Rattle.cw_lines.specs.declared.put_error.PutError.{PutError}
use Rattle.cw_lines.specs.declared.sheet.Sheet.{Sheet}
use Rattle.cw_names.specs.declared.entry.NameId.{NameId}
use Rattle.cw_names.specs.declared.xrefs.Occurrence.{Occurrence}
use Rattle.cw_phase1.specs.declared.book.Book.{Book}
use Rattle.cw_translator.specs.Counting.{limit_in, productions_in, scraps_in, ticks_in}
use Rattle.cw_press.specs.Done.{Done}
use Rattle.cw_press.specs.Texts.{Setting, lasting}
use Rattle.cw_press.specs.declared.counts.Counts.{Counts}

-- What printing changes: the book, the line that is being filled, what the desk tells, and the number of steps.
pub record Press : Type 1 where
  pub book : Book
  pub line : LineState
  pub told : DeskState
  pub steps : ℕ

-- the book, a sheet with what its desk tells, and the number of steps
abbrev pub press : {D : Type 0} → (D → DeskState) → Book → Sheet D → ℕ → Press
press told book sheet steps =
    record { book = book; line = sheet.line.now; told = told sheet.desk.now; steps = steps }

-- Each mark is an underlined occurrence in the present section. The section list has none.
abbrev pub mark : ℕ → NameId → Occurrence
mark section name = record { name = name; section = section; underlined = true }

abbrev pub marked : ℕ → List ℕ → List Occurrence
marked section marks = map (λ name. mark section (record { index = name })) marks

abbrev pub underlined : ℕ → List ℕ → List Occurrence
underlined section marks = if section == 0 then [] else marked section marks

-- Behind the occurrences stand the first of these, or none.
pub record NotesFirst (noted old new : List Occurrence) : Type 0 where
  pub count : ℕ
  pub are : new ≡ old ++ take count noted

-- The call printed this piece: it put its bytes, left its names, added its marks to the occurrences and counted its C
-- texts. Where it was refused, it put a first part of the bytes, and the names may have other categories.
pub record Weaves (s : Setting) (d : Done ℕ) (old new : Press) (result : Result Counts PutError) : Type 0 where
  pub puts : Puts d.out old.line new.line old.told new.told result
  pub names : OnOk result (new.book.names ≡ d.names)
  pub occurrences : OnOk result (new.book.xrefs ≡ old.book.xrefs ++ underlined s.section d.marks)
  pub same : lasting new.book ≡ lasting old.book
  pub scraps : IfOk result (λ counts. counts.scraps ≡ scraps_in d.ended)
  pub productions : IfOk result (λ counts. counts.productions ≡ productions_in s.flags d.ended)
  pub steps_are : OnOk result (new.steps ≡ old.steps + ticks_in s.flags d.ended)
  pub bound : new.steps ≤ old.steps + limit_in s.flags d.ended
