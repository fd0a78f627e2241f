-- What the small indexes are to the index.
use Rattle.std.specs.Prelude.{◌≡◌, ◌≢◌, ◌⊎◌, ℕ, true, List, [], ◌∷◌}
use Rattle.cw_names.specs.declared.xrefs.Occurrence.{Occurrence}
use Rattle.cw_names.specs.declared.xrefs.SectionRef.{SectionRef}
use Rattle.cw_names.specs.Names.{Entry}
use Rattle.cw_index.specs.Mentions.{IndexRow, index_rows}
use Rattle.cw_mini.specs.Mini.{MiniRow, mini_rows}

-- an element of a list
abbrev pub IsIn : {X : Type 0} → X → List X → Type 0
IsIn x [] = ⊥
IsIn x (y ∷ ys) = (y ≡ x) ⊎ IsIn x ys

-- the section, underlined
abbrev pub underlined : ℕ → SectionRef
underlined section = record { section = section; underlined = true }

-- Each of these is another section than this one, and is underlined in the row.
abbrev pub AreDefining : ℕ → IndexRow → List ℕ → Type 0
AreDefining own row [] = Unit {0}
AreDefining own row (section ∷ sections) =
    (section ≢ own) × IsIn (underlined section) row.sections × AreDefining own row sections

-- The index has a row of the same name, in which the sections are underlined.
pub record IsOf (own : ℕ) (rows : List IndexRow) (mini : MiniRow) : Type 0 where
  pub row : IndexRow
  pub stands : IsIn row rows
  pub name : mini.name ≡ row.name
  pub sections : AreDefining own row mini.sections

abbrev pub AreOf : ℕ → List IndexRow → List MiniRow → Type 0
AreOf own rows [] = Unit {0}
AreOf own rows (mini ∷ minis) = IsOf own rows mini × AreOf own rows minis

-- Each section that is listed for a name is another one than the row's own, and in the index it is underlined for the
-- same name.
abbrev pub NamesOtherSections : Type 0
NamesOtherSections = (own : ℕ) (names : List Entry) (occurrences : List Occurrence)
    → AreOf own (index_rows names occurrences) (mini_rows own names occurrences)
