-- Whole sections.
use Rattle.std.specs.Prelude.{ℕ, suc, List, [], ◌∷◌}
use Rattle.cw_names.specs.Names.{Entry}
use Rattle.cw_part.specs.Sections.{rest_done}
use Rattle.cw_phase1.specs.declared.sections.Section.{Section}
use Rattle.cw_press.specs.Done.{Done, as_it_is, done_then}
use Rattle.cw_press.specs.Texts.{Setting}
use Rattle.cw_texpart.specs.TexParts.{tex_done}

-- the TeX part, and what stands behind it
abbrev pub section_done : Setting → Section → List Entry → Done ℕ
section_done s section names = done_then (tex_done s section names) (rest_done s section)

-- the setting of the section of this number
abbrev pub at_section : Setting → ℕ → Setting
at_section s n = record { text = s.text; flags = s.flags; book = s.book; section = n }

-- Sections one after another, the first of which has this number.
abbrev pub sections_done : Setting → ℕ → List Section → List Entry → Done ℕ
sections_done s n [] names = as_it_is [] names
sections_done s n (section ∷ sections) names =
    done_then (section_done (at_section s n) section names) (sections_done s (suc n) sections)
