-- The lines with which the TeX file of a book closes.
use Rattle.std.specs.Prelude.{ℕ, ◌+◌, ◌&&◌, Bool, true, false, List, [], ◌∷◌, ◌++◌, codes, if◌then◌else◌}
use Rattle.std.specs.List.{flat_map, list_any}
use Rattle.cw_base.specs.Conditions.{list_if}
use Rattle.cw_base.specs.declared.flags.Flags.{Flags}
use Rattle.cw_phase1.specs.declared.sections.Section.{Section}
use Rattle.cw_print.specs.Walk.{section_number}

-- With a starred section the book has a table of contents.
abbrev pub last_line : Bool → List ℕ
last_line starred = if starred then codes "\\con\n" else codes "\\end\n"

-- the index and the section list are read in, where they are written
abbrev pub last_lines : Bool → Bool → List ℕ
last_lines index starred = if index then codes "\\inx\n\\fin\n" ++ last_line starred else codes "\\end\n"

-- ## The line of changed sections

-- the numbers of the changed ones of sections, of which the first has this number
abbrev pub changed_from : ℕ → List Section → List ℕ
changed_from n [] = []
changed_from n (s ∷ sections) =
    if s.changed then n ∷ changed_from (n + 1) sections else changed_from (n + 1) sections

-- what stands before the first of them, and before each other
abbrev pub before_change : Bool → List ℕ
before_change first = if first then codes "\\ch " else codes ", "

abbrev pub change : Bool → ℕ → List ℕ
change first n = before_change first ++ section_number n true

-- A line with these numbers; without a number there is no line.
abbrev pub printed_changes : List ℕ → List ℕ
printed_changes [] = []
printed_changes (n ∷ later) = change true n ++ (flat_map (change false) later ++ codes ".\n")

-- With flag r they are listed before the index.
abbrev pub changes_line : Flags → List Section → List ℕ
changes_line flags sections = list_if (flags.ranged && flags.index) (printed_changes (changed_from 1 sections))

abbrev pub closing_lines : Flags → List Section → List ℕ
closing_lines flags sections =
    changes_line flags sections ++ last_lines flags.index (list_any (λ section. section.starred) sections)
