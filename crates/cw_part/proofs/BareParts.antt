-- Where no bytes stand, there is no definition and no C text: nothing is printed, and nothing is left.
use Rattle.cw_part.proofs.Terms.{◌≡◌, ℕ, ◌==◌, ◌&&◌, ◌||◌, Bool, true, false, not, List, [], ◌∷◌, drop, take, refl, sym}
use Rattle.cw_part.proofs.Terms.{ap, ◌∙◌, length-take, arith, Ok, is_some, nat_lt, append-nil, drop_all, Flags, Span}
use Rattle.cw_part.proofs.Terms.{tokens_of, CPart, puts-none, Entry, scraps_in, printed_definitions, has_no_part}
use Rattle.cw_part.proofs.Terms.{paragraph_if, part_by, part_opening, Section, Beside, Counts, Done, reprinted, Setting}
use Rattle.cw_part.proofs.Terms.{ended_done, text_done, Press, Weaves, underlined-none, weaves-as}
use Rattle.std.proofs.lemmas.Bool.{eqb-true}
use Rattle.cw_scraps.specs.Applying.{categories}
use Rattle.cw_table.specs.{Normal.count, Normal.log, Normal.normal, NormalWalk.positions, WalkCounts.looks}
use Rattle.cw_trees.specs.Joining.{whole}
use Rattle.cw_translator.specs.Translating.{Ended, NameTexts, begin, end_of, nothing, state_in, translated}
use Rattle.cw_translator.specs.Translating.{with_categories}

-- ## No tokens

no-bytes : (text : List ℕ) (n : ℕ) → drop n (take n text) ≡ []
no-bytes text n = drop_all n (take n text) (omega (arith, length-take n text))

no-tokens : (text : List ℕ) (m n : ℕ) → m ≡ n → tokens_of text m n CPart ≡ []
no-tokens text m n same = grind (arith, no-bytes)

pub no-definitions : (text : List ℕ) (part : Span) → part.start ≡ part.«end» → printed_definitions text part ≡ []
no-definitions text part same = grind (arith, no-bytes)

-- ## What is left of a text without scraps

own-categories : (names : List Entry) → with_categories (categories names) names ≡ names
own-categories [] = refl
own-categories (name ∷ names) = ap (λ ns. name ∷ ns) (own-categories names)

-- where these names were there before it, and these are there behind it
abbrev text_left : List Entry → List Entry → Ended
text_left old new = record {
  tree = whole [];
  known = record { names = new; marks = []; ended = state_in [] (begin old []) ∷ [] };
}

abbrev empty_text : List Entry → Ended
empty_text names = text_left names names

end-quiet : (flags : Flags) (names : List Entry) → end_of flags (nothing (begin names [])) ≡ empty_text names
unfolding normal
end-quiet flags names = ap (text_left names) (own-categories names)

no-answers : (flags : Flags) (named : NameTexts) (names : List Entry)
    → translated flags named [] names [] ≡ empty_text names
unfolding translated
no-answers flags named names = end-quiet flags names

-- ## A section without a C part

abbrev empty_part : Setting → Span → List Entry → Done ℕ
empty_part s span names = ended_done s CPart false span (empty_text names)

no-text : (s : Setting) (span : Span) (names : List Entry) → span.start ≡ span.«end»
    → text_done s CPart false span names ≡ empty_part s span names
no-text s span names same = grind (arith, no-tokens, no-answers)

-- it prints nothing and counts nothing
left-out : {s : Setting} {old : Press} {counts : Counts} (span : Span) → counts.scraps ≡ 0 → counts.productions ≡ 0
    → Weaves s (reprinted (λ out. []) (empty_part s span old.book.names)) old old (Ok counts)
unfolding count log positions looks
left-out {s = s} {old = old} {counts = counts} span scraps prods =
    grind (arith, puts-none old.line old.told counts, append-nil old.book.xrefs, underlined-none s.section)

bare : (named : Bool) (m n : ℕ) → (not named && m == n) ≡ true → (named ≡ false) × (m ≡ n)
bare named m n h = grind (arith, eqb-true)

pub no-part : (s : Setting) (code : Beside) (section : Section) {old : Press} {counts : Counts}
    → has_no_part section ≡ true → counts.scraps ≡ 0 → counts.productions ≡ 0
    → Weaves s (part_by code s section old.book.names) old old (Ok counts)
no-part s code section {old = old} none scraps prods =
    let is : (is_some section.name ≡ false) × (section.c_part.start ≡ section.c_part.«end») =
    bare (is_some section.name) section.c_part.start section.c_part.«end» none in
    let opening : List ℕ = part_opening code s.flags.ranged section in
    weaves-as (sym (ap (λ (e : Done ℕ). paragraph_if (is_some section.name || nat_lt 0 (scraps_in e.ended)) opening e)
    (no-text s section.c_part old.book.names is.1) ∙ ap (λ (named : Bool). paragraph_if (named || false) opening
    (empty_part s section.c_part old.book.names)) is.0)) (left-out section.c_part scraps prods)
