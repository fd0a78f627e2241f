-- The footnotes of a section name: which other sections define it, and which cite and use it.
use Rattle.std.specs.Prelude.{ℕ, List, [], ◌∷◌, ◌++◌, Option, Some, None, codes, drop, map, slice_get}
use Rattle.std.specs.Option.{option_map_or}
use Rattle.cw_base.specs.Conditions.{list_if}
use Rattle.cw_phase1.specs.declared.sections.Section.{Section}
use Rattle.cw_print.specs.Sources.{defines_first, is_changed}
use Rattle.cw_secnames.specs.Kept.{SecName}
use Rattle.cw_secnames.specs.declared.kinds.SecId.{SecId}
use Rattle.cw_print.specs.Walk.{section_number}
use Rattle.cw_press.specs.Texts.{Setting}

-- the number of one of these sections, as it is printed
abbrev pub number_in : List Section → ℕ → List ℕ
number_in sections n = section_number n (is_changed sections n)

-- One number stands alone, and two stand about `\ET`. Of more the last stands behind `\ETs`, those before it behind
-- commas.
abbrev pub separator : List (List ℕ) → List ℕ
separator [] = codes "\\ETs"
separator (number ∷ numbers) = codes ", "

abbrev pub later_numbers : List (List ℕ) → List ℕ
later_numbers [] = []
later_numbers (number ∷ numbers) = separator numbers ++ number ++ later_numbers numbers

abbrev pub footnote_numbers : List (List ℕ) → List ℕ
footnote_numbers [] = []
footnote_numbers (one ∷ []) = one
footnote_numbers (one ∷ two ∷ []) = codes "s" ++ one ++ codes "\\ET" ++ two
footnote_numbers (one ∷ two ∷ three ∷ more) = codes "s" ++ one ++ later_numbers (two ∷ three ∷ more)

-- A footnote is a line, where there is a section to be listed.
abbrev pub footnote : List Section → List ℕ → List ℕ → List ℕ
footnote sections letter [] = []
footnote sections letter (n ∷ ns) = letter ++ footnote_numbers (map (number_in sections) (n ∷ ns)) ++ codes ".\n"

-- `\Q` with the sections that cite a name, and `\U` with those that use it
abbrev pub use_footnotes : List Section → SecName → List ℕ
use_footnotes sections name = footnote sections (codes "\\Q") name.cited ++ footnote sections (codes "\\U") name.used

-- before them `\A` with the sections that define it behind the first
abbrev pub name_footnotes : List Section → SecName → List ℕ
name_footnotes sections name = footnote sections (codes "\\A") (drop 1 name.defined) ++ use_footnotes sections name

-- Footnotes of the name with this id, if it is kept.
abbrev pub of_name : (SecName → List ℕ) → List SecName → Option SecId → List ℕ
of_name notes kept None = []
of_name notes kept (Some id) = option_map_or notes (slice_get kept id.index) []

-- All footnotes of a name stand in the first section that defines it, and in no other.
abbrev pub footnotes : Setting → Section → List ℕ
footnotes s section =
    list_if (defines_first s.book.sec_names section.name s.section)
    (of_name (name_footnotes s.book.outline.sections) s.book.sec_names section.name)
