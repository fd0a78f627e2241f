-- Sections behind their TeX parts.
use Rattle.std.specs.Prelude.{ℕ, List, ◌++◌, codes}
use Rattle.cw_names.specs.Names.{Entry}
use Rattle.cw_texts.specs.Definitions.{printed_definitions}
use Rattle.cw_press.specs.Footnotes.{footnotes}
use Rattle.cw_part.specs.Parts.{definitions_done, first_opening, part_by}
use Rattle.cw_phase1.specs.declared.sections.Section.{Section}
use Rattle.cw_press.specs.Done.{Done, as_it_is, done_then}
use Rattle.cw_press.specs.Beside.{beside_in}
use Rattle.cw_press.specs.declared.beside.Beside.{Beside}
use Rattle.cw_press.specs.Texts.{Setting}

-- The footnotes, a line `\fi` and an empty line end a section.
abbrev pub ending : Setting → Section → List ℕ
ending s section = footnotes s section ++ codes "\\fi\n\n"

-- what stands behind the TeX part of a section that has this code beside its number
abbrev pub rest_by : Beside → Setting → Section → List Entry → Done ℕ
rest_by code s section names =
    let definitions = printed_definitions s.text section.definitions in
    done_then (definitions_done s (first_opening code) definitions names) (λ names.
    done_then (part_by code s section names) (as_it_is (ending s section)))

-- what stands behind the TeX part of a section
abbrev pub rest_done : Setting → Section → List Entry → Done ℕ
rest_done s section names = rest_by (beside_in s section) s section names
