-- The notes of the first phase, in order.
use Rattle.std.specs.Prelude.{ℕ, ◌+◌, List, [], ◌∷◌, ◌++◌, if◌then◌else◌}
use Rattle.cw_base.specs.declared.notes.Note.{Note}
use Rattle.cw_base.specs.declared.notes.NoteKind.{NoteKind}
use Rattle.cw_base.specs.declared.notes.NoteKind.TheVariants as kinds
use Rattle.cw_base.specs.Web.{MergedLine}
use Rattle.cw_rules.specs.Answers as lex
use Rattle.cw_secnames.specs.declared.kinds.SecKind.{SecKind}
use Rattle.cw_secnames.specs.declared.kinds.SecKind.TheVariants.{Named}
use Rattle.cw_secnames.specs.Kept.{SecName}
use Rattle.cw_phase1.specs.Places.{place_in, nowhere}

-- the notes among answers, with their places
abbrev pub scanned_note : List MergedLine → lex.Answer → List Note
scanned_note lines (lex.Note kind byte) = record { kind = kind; value = 0; place = place_in lines byte } ∷ []
scanned_note lines answer = []

-- The notes on a kept name: it is incomplete; else it is never defined, or a name of `@<` that is never used, or both.
abbrev pub name_note : NoteKind → ℕ → Note
name_note kind k = record { kind = kind; value = k; place = nowhere }

abbrev pub undefined : ℕ → List ℕ → List Note
undefined k [] = name_note kinds.NeverDefined k ∷ []
undefined k (section ∷ sections) = []

abbrev pub unused : ℕ → SecKind → List ℕ → List Note
unused k Named [] = name_note kinds.NeverUsed k ∷ []
unused k kind sections = []

abbrev pub notes_on : ℕ → SecName → List Note
notes_on k n =
    if n.complete then undefined k n.defined ++ unused k n.kind n.used
    else name_note kinds.NameIncomplete k ∷ []

abbrev pub name_notes_from : ℕ → List SecName → List Note
name_notes_from k [] = []
name_notes_from k (n ∷ names) = notes_on k n ++ name_notes_from (k + 1) names

abbrev pub name_notes : List SecName → List Note
name_notes names = name_notes_from 0 names
