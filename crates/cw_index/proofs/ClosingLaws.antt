-- Whether a section of a list is starred, and what is left of the line of changed sections.
use Rattle.cw_index.proofs.Terms.{◌≡◌, ℕ, ◌+◌, ◌-◌, ◌≤◌, ◌&&◌, Bool, true, false, refl, sym, ◌∙◌, List, [], ◌∷◌, ◌++◌}
use Rattle.cw_index.proofs.Terms.{Some, append_assoc, arith, drop, length, codes, slice_get, if◌then◌else◌, flat_map}
use Rattle.cw_index.proofs.Terms.{list_any, drop_all, Section, change, changed_from, changes_line, printed_changes}
use Rattle.cw_base.specs.declared.flags.Flags.{Flags}
use Rattle.cw_index.proofs.RowLaws.{drop-at}

abbrev any_starred : List Section → Bool
any_starred sections = list_any (λ section. section.starred) sections

here : (sections : List Section) (i : ℕ) (s : Section) → slice_get sections ((i + 1) - 1) ≡ Some s
    → any_starred (drop i sections) ≡ any_starred (s ∷ drop (i + 1) sections)
here sections i s there = grind (arith, drop-at)

pub starred-here : (sections : List Section) (i : ℕ) (s : Section) → slice_get sections ((i + 1) - 1) ≡ Some s
    → s.starred ≡ true → true ≡ list_any (λ section. section.starred) (drop i sections)
starred-here sections i s there is = sym (here sections i s there ∙ rw is refl)

pub starred-later : (sections : List Section) (i : ℕ) (s : Section) → slice_get sections ((i + 1) - 1) ≡ Some s
    → s.starred ≡ false → list_any (λ section. section.starred) (drop (i + 1) sections)
    ≡ list_any (λ section. section.starred) (drop i sections)
starred-later sections i s there is = sym (here sections i s there ∙ rw is refl)

-- ## The line of changed sections

-- What is left to put of it for these numbers, where none is listed before them, and where one is.
abbrev pub changes_left : Bool → List ℕ → List ℕ
changes_left true numbers = printed_changes numbers
changes_left false numbers = flat_map (change false) numbers ++ codes ".\n"

left-next : (first : Bool) (n : ℕ) (later : List ℕ)
    → changes_left first (n ∷ later) ≡ change first n ++ changes_left false later
left-next first n later = grind (arith, append_assoc)

left-end : (first : Bool) → changes_left first [] ≡ (if first then [] else codes ".\n")
left-end first = grind arith

-- Behind the last section the line is ended, if it was begun.
pub left-behind : (first : Bool) (sections : List Section) (i : ℕ) (bytes : List ℕ) → length sections ≤ i
    → bytes ≡ (if first then [] else codes ".\n") → changes_left first (changed_from (i + 1) (drop i sections)) ≡ bytes
left-behind first sections i bytes all is = grind (arith, drop_all, left-end)

left-at : (first : Bool) (sections : List Section) (i : ℕ) (s : Section) → slice_get sections ((i + 1) - 1) ≡ Some s
    → changes_left first (changed_from (i + 1) (drop i sections))
    ≡ changes_left first (changed_from (i + 1) (s ∷ drop (i + 1) sections))
left-at first sections i s there = grind (arith, drop-at)

pub left-here : (first : Bool) (sections : List Section) (i : ℕ) (s : Section) → slice_get sections ((i + 1) - 1)
    ≡ Some s → s.changed ≡ true → changes_left first (changed_from (i + 1) (drop i sections)) ≡ change first (i + 1)
    ++ changes_left false (changed_from ((i + 1) + 1) (drop (i + 1) sections))
left-here first sections i s there is = left-at first sections i s there
    ∙ rw is (left-next first (i + 1) (changed_from ((i + 1) + 1) (drop (i + 1) sections)))

pub left-later : (first : Bool) (sections : List Section) (i : ℕ) (s : Section) → slice_get sections ((i + 1) - 1)
    ≡ Some s → s.changed ≡ false → changes_left first (changed_from (i + 1) (drop i sections))
    ≡ changes_left first (changed_from ((i + 1) + 1) (drop (i + 1) sections))
left-later first sections i s there is = left-at first sections i s there ∙ rw is refl

-- The line stands there where the flags ask for it.
pub listed : (flags : Flags) (sections : List Section) → (flags.ranged && flags.index) ≡ true
    → printed_changes (changed_from 1 sections) ≡ changes_line flags sections
listed flags sections asked = rw asked refl

pub unlisted : (flags : Flags) (sections : List Section) → (flags.ranged && flags.index) ≡ false
    → [] ≡ changes_line flags sections
unlisted flags sections asked = rw asked refl
