-- Texts are added one behind another.
use Rattle.cw_texts.proofs.Terms.{◌≡◌, ℕ, suc, ◌+◌, ◌-◌, Bool, List, [], ◌∷◌, ◌++◌, drop, sym, ap, ◌∙◌, append_assoc}
use Rattle.cw_texts.proofs.Terms.{arith, Some, slice_get, append-nil, drop_more, get_or_from_slice_get}
use Rattle.cw_texts.proofs.Terms.{slice_get_within, Section, NameUse, TextRef, part_refs, refs_from, section_refs}
use Rattle.cw_base.specs.declared.span.Span.{Span}

-- the first of what was left goes behind what was there
pub added : {X : Type 0} (now first rest : List X) {new left all : List X} → new ≡ now ++ first → left ≡ first ++ rest
    → now ++ left ≡ all → new ++ rest ≡ all
added now first rest is begins all =
    ap (λ xs. xs ++ rest) is ∙ append_assoc now first rest ∙ ap (λ xs. now ++ xs) (sym begins) ∙ all

-- where nothing is left, all is there
pub all-added : {X : Type 0} {now left all : List X} → left ≡ [] → now ++ left ≡ all → now ≡ all
all-added {now = now} none all = sym (append-nil now) ∙ ap (λ xs. now ++ xs) (sym none) ∙ all

-- three lists one behind another
pub all-three : {X : Type 0} (old first second third : List X) {a b new : List X} → a ≡ old ++ first → b ≡ a ++ second
    → new ≡ b ++ third → new ≡ old ++ (first ++ (second ++ third))
all-three old first second third p q r = r ∙ ap (λ xs. xs ++ third) (q ∙ ap (λ xs. xs ++ second) p)
    ∙ append_assoc (old ++ first) second third ∙ append_assoc old first (second ++ third)

-- a C part that is a text where a test says so
pub part-added : {printed test : Bool} (number : ℕ) (part : Span) (old : List TextRef) {new : List TextRef}
    → printed ≡ test → new ≡ old ++ part_refs printed number part → new ≡ old ++ part_refs test number part
part-added number part old is there = there ∙ ap (λ (b : Bool). old ++ part_refs b number part) is

-- the section at a position, counted from 1
drop-section : (sections : List Section) (before : ℕ) (section : Section)
    → slice_get sections (before + 1 - 1) ≡ Some section → drop before sections ≡ section ∷ drop (before + 1) sections
drop-section sections before section there =
    let at : slice_get sections before ≡ Some section = ap (slice_get sections) (omega arith) ∙ there in
    drop_more sections before section (slice_get_within sections before section at)
    ∙ ap (λ s. s ∷ drop (before + 1) sections) (get_or_from_slice_get sections before section section at)

-- its texts come before those of the sections behind it
pub section-first : (test : Section → Bool) (text : List ℕ) (uses : List NameUse) (sections : List Section) (before : ℕ)
    (section : Section) → slice_get sections (before + 1 - 1) ≡ Some section
    → refs_from test text uses (before + 1) (drop before sections) ≡ section_refs (test section) text uses (before + 1)
    section ++ refs_from test text uses (before + 1 + 1) (drop (before + 1) sections)
section-first test text uses sections before section there =
    let next : suc (before + 1) ≡ before + 1 + 1 = omega arith in
    ap (refs_from test text uses (before + 1)) (drop-section sections before section there) ∙ ap (λ n. section_refs
    (test section) text uses (before + 1) section ++ refs_from test text uses n (drop (before + 1) sections)) next
