-- Definitions and C parts, as they are printed.
use Rattle.std.specs.Prelude.{ℕ, ◌==◌, ◌&&◌, ◌||◌, Bool, false, not, is_some, nat_lt, List, [], ◌∷◌, ◌++◌, codes}
use Rattle.std.specs.Prelude.{if◌then◌else◌}
use Rattle.cw_base.specs.Conditions.{list_if}
use Rattle.cw_rules.specs.declared.tokens.Mode.TheVariants as modes
use Rattle.cw_names.specs.Names.{Entry}
use Rattle.cw_texts.specs.declared.definitions.Definition.{Definition}
use Rattle.cw_phase1.specs.declared.sections.Section.{Section}
use Rattle.cw_translator.specs.Counting.{scraps_in}
use Rattle.cw_press.specs.Done.{Done, as_it_is, reprinted, done_then}
use Rattle.cw_press.specs.Beside.{beside_in}
use Rattle.cw_press.specs.Texts.{Setting, text_done}
use Rattle.cw_press.specs.declared.beside.Beside.{Beside}
use Rattle.cw_press.specs.declared.beside.Beside.TheVariants as besides

-- a C text that is a paragraph, behind these bytes
abbrev pub paragraph : List ℕ → Done ℕ → Done ℕ
paragraph front d = reprinted (λ out. front ++ out ++ codes "\\par\n") d

-- ## Definitions

-- Space is before the first one, but where it stands beside the number of its section: there `\quad` takes back the
-- step to the left with which it begins.
abbrev pub first_opening : Beside → List ℕ
first_opening besides.Definition = codes "\\B\\quad"
first_opening other = codes "\\Y\\B"

-- Definitions one after another, the first behind this opening.
abbrev pub definitions_done : Setting → List ℕ → List Definition → List Entry → Done ℕ
definitions_done s opening [] names = as_it_is [] names
definitions_done s opening (d ∷ ds) names =
    done_then (paragraph opening (text_done s modes.Definition false d.span names))
    (definitions_done s (codes "\\B") ds)

-- ## The C part

-- a paragraph that is printed or not; it is translated in any case
abbrev pub paragraph_if : Bool → List ℕ → Done ℕ → Done ℕ
paragraph_if printed front d = if printed then paragraph front d else reprinted (λ out. []) d

-- Nothing stands there, and it has no name. So it isn't printed.
abbrev pub has_no_part : Section → Bool
has_no_part section = not (is_some section.name) && section.c_part.start == section.c_part.«end»

-- Space is before it, but where it stands beside the number of its section. With flag r a name at its head stands one
-- step to the left, as definitions do.
abbrev pub part_opening : Beside → Bool → Section → List ℕ
part_opening besides.CPart ranged section = codes "\\B"
part_opening other ranged section = codes "\\Y\\B" ++ list_if (ranged && is_some section.name) (codes "\\4")

-- The C part is printed where it is named or has a scrap.
abbrev pub part_from : List ℕ → Section → Done ℕ → Done ℕ
part_from opening section d = paragraph_if (is_some section.name || nat_lt 0 (scraps_in d.ended)) opening d

-- the C part of a section that has this code beside its number
abbrev pub part_by : Beside → Setting → Section → List Entry → Done ℕ
part_by code s section names =
    part_from (part_opening code s.flags.ranged section) section
    (text_done s modes.CPart false section.c_part names)

abbrev pub part_done : Setting → Section → List Entry → Done ℕ
part_done s section names = part_by (beside_in s section) s section names
