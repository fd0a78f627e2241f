-- How the sections of names are noted: where a section more is put, and where the sections of a name lie.
use Rattle.std.specs.Prelude.{ℕ, zero, suc, ◌==◌, ◌||◌, Bool, nat_lt, List, [], ◌∷◌, Vec, if◌then◌else◌}
use Rattle.std.specs.declared.alloc.Global.{Global}
use Rattle.cw_names.specs.declared.xrefs.SectionRef.{SectionRef}

-- A section is put at its ascending place. One that is there is underlined when either is.
abbrev pub with_mention : ℕ → Bool → List SectionRef → List SectionRef
with_mention section underlined [] = record { section = section; underlined = underlined } ∷ []
with_mention section underlined (m ∷ ms) =
    if nat_lt m.section section then m ∷ with_mention section underlined ms
    else if m.section == section then record m { underlined = m.underlined || underlined } ∷ ms
    else record { section = section; underlined = underlined } ∷ m ∷ ms

-- How the sections lie: a list for each name up to the last that occurs.
abbrev pub sections_at : ℕ → List (Vec SectionRef Global) → List SectionRef
sections_at name [] = []
sections_at zero (list ∷ lists) = list.items
sections_at (suc name) (list ∷ lists) = sections_at name lists
