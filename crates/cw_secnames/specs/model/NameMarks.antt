-- Which names are marked, until the marks are given back.
use Rattle.std.specs.Prelude.{◌≡◌, ℕ, true, List}
use Rattle.cw_secnames.specs.declared.kinds.SecKind.{SecKind}
use Rattle.cw_secnames.specs.declared.name_marks.NameMarks.{NameMarks}
use Rattle.cw_secnames.specs.Kept.{SecName}
use Rattle.cw_secnames.specs.model.Marks.{AreMarked, IsMarked, KeepsMarks}

-- A name is marked while the marks are there.
abbrev pub IsMarkedName : NameMarks → SecKind → List ℕ → ℕ → Type 0
IsMarkedName m kind text k = m.live ≡ true → IsMarked m.marks kind text k

-- so are all names from a position on
abbrev pub AreMarkedNames : NameMarks → ℕ → List SecName → Type 0
AreMarkedNames m k names = m.live ≡ true → AreMarked m.marks k names

-- Marks that are there were there before, and mark what was marked.
abbrev pub KeepsNames : NameMarks → NameMarks → Type 0
KeepsNames m more = more.live ≡ true → (m.live ≡ true) × KeepsMarks m.marks more.marks
