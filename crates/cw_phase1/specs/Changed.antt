-- The mark of change on the last section: the index, with which a book ends, changes with any section.
use Rattle.std.specs.Prelude.{Bool, true, List, [], ◌∷◌, if◌then◌else◌}
use Rattle.std.specs.List.{list_any}
use Rattle.cw_phase1.specs.declared.book.Book.{Book}
use Rattle.cw_phase1.specs.declared.sections.Section.{Section}

abbrev pub has_changed : List Section → Bool
has_changed sections = list_any (λ s. s.changed) sections

abbrev pub with_last_changed : List Section → List Section
with_last_changed [] = []
with_last_changed (s ∷ []) = record s { changed = true } ∷ []
with_last_changed (s ∷ next ∷ sections) = s ∷ with_last_changed (next ∷ sections)

-- Where a section holds a changed line, the last one is marked too.
abbrev pub with_last_marked : List Section → List Section
with_last_marked sections = if has_changed sections then with_last_changed sections else sections

abbrev pub marked_book : Book → Book
marked_book b = record b { outline = record b.outline { sections = with_last_marked b.outline.sections } }

-- with flag r the last section of a book is marked
abbrev pub ranged_book : Bool → Book → Book
ranged_book ranged b = if ranged then marked_book b else b
