-- The models beside `specs/Coming`.
use Rattle.std.specs.Prelude.{◌+◌, ℕ, List, ◌++◌, drop}
use Rattle.cw_phase1.specs.declared.sections.Section.{Section}
use Rattle.cw_secnames.specs.Uses.{NameUse}
use Rattle.cw_texts.specs.declared.book_texts.Sections.{Sections}
use Rattle.cw_texts.specs.declared.text_list.TextRef.{TextRef}
use Rattle.cw_texts.specs.Printed.{is_printed}
use Rattle.cw_texts.specs.Texts.{refs_from}

-- Where so many sections have begun: those that are left of the last one, and those of the sections behind it.
abbrev pub refs_left : List ℕ → List NameUse → List Section → ℕ → List TextRef → List TextRef
refs_left text uses sections begun left =
    left ++ refs_from (is_printed text uses) text uses (begun + 1) (drop begun sections)

abbrev pub left_in : Sections → ℕ → List TextRef → List TextRef
left_in book begun left = refs_left book.text.now book.uses.now book.outline.now.sections begun left
