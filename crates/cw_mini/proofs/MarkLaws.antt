-- Marks go behind occurrences one by one.
use Rattle.cw_mini.proofs.Terms.{◌≡◌, ℕ, ◌+◌, ◌<◌, ◌∙◌, List, [], ◌∷◌, ◌++◌, ap, append_assoc, drop, get_or, length}
use Rattle.cw_mini.proofs.Terms.{map, sym, drop_more, Occurrence, occurrence_of, with_marks}
use Rattle.cw_mini.specs.declared.marks.SectionMark.{SectionMark}

pub marks-next : (occurrences new all : List Occurrence) (marks : List SectionMark) (i : ℕ) (d : SectionMark)
    → i < length marks → new ≡ occurrences ++ occurrence_of (get_or marks i d) ∷ []
    → with_marks occurrences (drop i marks) ≡ all → with_marks new (drop (i + 1) marks) ≡ all
marks-next occurrences new all marks i d low is so = ap (λ (l : List Occurrence). l ++ map occurrence_of (drop (i + 1)
    marks)) is ∙ append_assoc occurrences (occurrence_of (get_or marks i d) ∷ []) (map occurrence_of (drop (i + 1)
    marks)) ∙ ap (λ (l : List SectionMark). occurrences ++ map occurrence_of l) (sym (drop_more marks i d low)) ∙ so
