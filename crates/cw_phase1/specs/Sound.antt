-- What holds of the book of every web.
use Rattle.std.specs.Prelude.{◌≡◌, ℕ, ◌+◌, ◌≤◌, List, [], ◌∷◌}
use Rattle.std.specs.Option.{option_map}
use Rattle.cw_secnames.specs.Kept.{SecName, id}
use Rattle.cw_secnames.specs.Uses.{NameUse, name_at}
use Rattle.cw_phase1.specs.declared.sections.Section.{Section}

-- The numbers ascend, each once, from `first` up to `last`.
abbrev pub Ascend : ℕ → ℕ → List ℕ → Type 0
Ascend first last [] = Unit {0}
Ascend first last (n ∷ numbers) = (first ≤ n) × (n ≤ last) × Ascend (n + 1) last numbers

-- The sections that refer to a name ascend in each of the three ways, from section 1 up to the last one.
pub record RefersUpTo (last : ℕ) (n : SecName) : Type 0 where
  pub defined : Ascend 1 last n.defined
  pub used : Ascend 1 last n.used
  pub cited : Ascend 1 last n.cited

-- The parts of a section stand one behind another in a text of this size.
pub record LiesIn (size : ℕ) (s : Section) : Type 0 where
  pub tex : s.tex.start ≤ s.tex.«end»
  pub definitions : s.definitions.start ≤ s.definitions.«end»
  pub c_part : s.c_part.start ≤ s.c_part.«end»
  pub tex_ends : s.tex.«end» ≡ s.definitions.start
  pub definitions_end : s.definitions.«end» ≡ s.c_part.start
  pub within : s.c_part.«end» ≤ size

-- A section has the name that is kept for the section name at which its C part begins, if one stands there.
abbrev pub IsNamedBy : List NameUse → Section → Type 0
IsNamedBy uses s = s.name ≡ option_map id (name_at s.c_part.start uses)
