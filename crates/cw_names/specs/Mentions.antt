-- The sections in which a name occurs.
use Rattle.std.specs.Prelude.{ℕ, ◌+◌, max, ◌<◌, ◌==◌, ◌&&◌, Bool, List, AllPairs, fold, map}
use Rattle.std.specs.List.{filter, list_any, range_with_len}
use Rattle.cw_names.specs.declared.xrefs.Occurrence.{Occurrence}
use Rattle.cw_names.specs.declared.xrefs.SectionRef.{SectionRef}

-- whether an occurrence is in a section, and whether it is underlined there
abbrev pub is_of_section : ℕ → Occurrence → Bool
is_of_section section o = o.section == section

-- whether any of the occurrences is, and the section as they mention it: underlined where any of them is
abbrev pub any_in : List Occurrence → ℕ → Bool
any_in occurrences section = list_any (is_of_section section) occurrences

abbrev pub any_underlined_in : List Occurrence → ℕ → Bool
any_underlined_in occurrences section = list_any (λ o. is_of_section section o && o.underlined) occurrences

-- The least number that is above the sections of all occurrences.
abbrev pub above_all : List Occurrence → ℕ
above_all occurrences = fold (λ most o. max most (o.section + 1)) 0 occurrences

-- The sections in which any of the occurrences is, ascending, each once.
abbrev pub sections_in : List Occurrence → List SectionRef
sections_in occurrences =
    map (λ section. record { section = section; underlined = any_underlined_in occurrences section })
    (filter (any_in occurrences) (range_with_len 0 (above_all occurrences)))

-- Those of one name.
abbrev pub mentions : ℕ → List Occurrence → List SectionRef
mentions name occurrences = sections_in (filter (λ o. o.name.index == name) occurrences)

-- Each section is below all later ones.
abbrev pub AreAscending : List SectionRef → Type 0
AreAscending ms = AllPairs (λ m later. m.section < later.section) ms
