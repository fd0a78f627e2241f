-- What the answers of a whole web leave.
use Rattle.std.specs.Prelude.{◌≡◌, ℕ, ◌+◌, ◌<◌, ◌≤◌, List, [], ◌∷◌, ◌++◌, Option, Some, None, All, length, slice_get}
use Rattle.std.specs.Prelude.{unwrap_or}
use Rattle.std.specs.List.{flat_map}
use Rattle.cw_base.specs.Web.{MergedLine, text_of}
use Rattle.cw_rules.specs.Order.{Covers}
use Rattle.cw_secnames.specs.Kept.{SecName}
use Rattle.cw_secnames.specs.References.{Reference, with_reference}
use Rattle.cw_phase1.specs.declared.book.Book.{Book}
use Rattle.cw_phase1.specs.declared.sections.Open.{Open}
use Rattle.cw_phase1.specs.declared.sections.Sections.{Sections}
use Rattle.cw_phase1.specs.Book.{answers_of}
use Rattle.cw_phase1.specs.Entering.{kept_after, noted_from}
use Rattle.cw_phase1.specs.Missing.{missing_equals}
use Rattle.cw_phase1.specs.Notes.{name_notes, notes_on, scanned_note}
use Rattle.cw_base.specs.declared.notes.Note.{Note}
use Rattle.cw_phase1.specs.Roles.{placed}
use Rattle.cw_phase1.specs.model.Telling.{told_all, told_start}
use Rattle.cw_phase1.specs.model.Holding.{HeldState}
use Rattle.cw_phase1.specs.model.Outlining.{closing}
use Rattle.cw_phase1.specs.Sections.{span}

abbrev pub open_count : Option Open → ℕ
open_count None = 0
open_count (Some o) = 1

-- how many sections there are, where the one that is open closes
abbrev pub section_total : Sections → ℕ
section_total s = open_count s.open_one + length s.closed

-- All references are to names that are kept.
abbrev pub AreOfKept : List SecName → List Reference → Type 0
AreOfKept kept references = All (λ r. r.name < length kept) references

-- What is held is what the answers of these lines give.
pub record IsScanned (lines : List MergedLine) (h : HeldState) : Type 0 where
  pub told : h.told ≡ told_all lines (placed (answers_of lines)) told_start
  pub kept : h.kept ≡ kept_after [] (answers_of lines)
  pub notes : h.notes ≡ flat_map (scanned_note lines) (noted_from [] (answers_of lines))
  pub ids : AreOfKept h.kept h.told.named.references
  pub total : section_total h.told.sections ≤ 16777216
  pub few : length h.kept ≤ 16777216
  pub covers : Covers (text_of lines) 0 (length (text_of lines)) (answers_of lines)

-- The kept names with references, added one by one.
abbrev pub with_references : List Reference → List SecName → List SecName
with_references [] names = names
with_references (r ∷ references) names = with_references references (with_reference r.name r.how r.section names)

-- The book of what is held when all answers came: the last section is closed, the kept names have their references, and
-- what is known only now is noted.
pub record IsMadeOf (lines : List MergedLine) (h : HeldState) (b : Book) : Type 0 where
  pub names : b.names ≡ h.told.words.names
  pub xrefs : b.xrefs ≡ h.told.words.xrefs
  pub sec_names : b.sec_names ≡ with_references h.told.named.references h.kept
  pub count : length b.sec_names ≡ length h.kept
  pub name_uses : b.name_uses ≡ h.told.named.uses
  pub limbo : b.outline.limbo ≡ span 0 (unwrap_or h.told.sections.limbo_end (length (text_of lines)))
  pub sections : b.outline.sections ≡ closing lines (length (text_of lines)) h.told.sections
  pub notes : b.outline.notes
      ≡ h.notes ++ (missing_equals lines b.name_uses b.sec_names b.outline.sections ++ name_notes b.sec_names)

-- the notes on the kept name at a position
abbrev pub notes_at_by : Option SecName → ℕ → List Note
notes_at_by None k = []
notes_at_by (Some n) k = notes_on k n

abbrev pub notes_at : ℕ → List SecName → List Note
notes_at k names = notes_at_by (slice_get names k) k
