-- The pieces of a book lie end to end, and are all of its web.
use Rattle.std.proofs.Common.{◌≡◌, ℕ, ◌+◌, ◌-◌, ◌<◌, ◌≤◌, Bool, true, false, List, [], ◌∷◌, ◌++◌, All, length, drop}
use Rattle.std.proofs.Common.{take, refl, sym, ap, subst, ◌∙◌, arith, ◌⊎◌, inl, inr, if◌then◌else◌}
use Rattle.std.specs.Prelude.{cond, slice_range}
use Rattle.std.proofs.lemmas.Bool.{cases_lt}
use Rattle.std.proofs.lemmas.List.Sums.{sum_by-cons}
use Rattle.std.proofs.lemmas.List.{take_all, take-append-drop, drop-drop, drop-take, take-take}
use Rattle.std.proofs.lemmas.Bool.Decides.{nat_tests}
use Rattle.cw_base.specs.declared.span.Span.{Span}
use Rattle.cw_base.specs.Web.{MergedLine, text_of}
use Rattle.cw_base.proofs.TestLaws.{not-both}
use Rattle.cw_rules.specs.declared.tokens.Mode.TheVariants as modes
use Rattle.cw_rules.specs.Answers.{Answer, Token, Begin, Finish, Note, Seen, has_sign}
use Rattle.cw_lex.specs.Lexing.{answers_at, beginning, fresh_at, last_at}
use Rattle.cw_lex.specs.Nested.{is_section_kind}
use Rattle.cw_lex.proofs.Covering.{tokens-cover}
use Rattle.cw_secnames.specs.Kept.{SecName}
use Rattle.cw_phase1.specs.declared.roles.Standing.{Standing}
use Rattle.cw_phase1.specs.declared.sections.Section.{Section}
use Rattle.cw_phase1.specs.Book.{answers_of}
use Rattle.cw_phase1.specs.Entering.{kept_behind}
use Rattle.cw_phase1.specs.Roles.{Placement, at_limbo, token_step, behind_begin, placed, placed_from}
use Rattle.cw_phase1.specs.Sections.{span, is_section_code, ends_section, first_start, section_at, sections_of}
use Rattle.cw_phase1.specs.Sound.{LiesIn}
use Rattle.cw_phase1.specs.declared.roles.Part.TheVariants as parts
use Rattle.cw_phase1.proofs.PartEnds.{plain-role, section-part}
use Rattle.cw_phase1.proofs.SpanLaws.{Follow, follows, all-lie}
use Rattle.cw_laws.specs.Pieces.{pieces_from, book_pieces, EndToEnd, SectionBeginsAt, AreBegun, piece_bytes, has_byte}
use Rattle.cw_laws.specs.Pieces.{pieces_with, IsAllOf, BooksAreWhole}
use Rattle.cw_laws.proofs.Openers.{AreOpeners, openers}
use Rattle.cw_laws.proofs.PartCodes.{definitions-begin, c-part-begins}
use Rattle.cw_laws.proofs.SectionCodes.{IsCodeAt, AreCoded, coded}

-- ## Pieces lie end to end

lie-by : (b : Bool) (start later size : ℕ) (s : Section) (rest : List Section) → start ≤ s.tex.start → s.c_part.end
    ≡ later → All (LiesIn size) (if b then s ∷ rest else rest) → EndToEnd later size (pieces_from later rest) → EndToEnd
    (if b then start else later) size (pieces_from (if b then start else later) (if b then s ∷ rest else rest))
lie-by b start later size s rest h e a k = grind (arith, nat_tests)

lie : (lines : List MergedLine) (from size : ℕ) (ps : List Placement) → Follow from size ps → EndToEnd (first_start
    ends_section size ps) size (pieces_from (first_start ends_section size ps) (sections_of lines size ps))
lie lines from size [] f = refl
lie lines from size (p ∷ ps) f = lie-by (is_section_code p.role) p.token.span.start
    (first_start ends_section size ps) size (section_at lines size p.token ps) (sections_of lines size ps)
    (omega (arith, f.1)) refl (all-lie lines from size (p ∷ ps) f) (lie lines p.token.span.end size ps f.2)

-- ## Each section begins with its code

begun-by : (text : List ℕ) (b : Bool) (start later : ℕ) (s : Section) (rest : List Section)
    → (b ≡ true → SectionBeginsAt text start s) → s.c_part.end ≡ later → AreBegun text later rest
    → AreBegun text (if b then start else later) (if b then s ∷ rest else rest)
begun-by text b start later s rest h e k = grind (arith, nat_tests)

-- only a section code has its role
kind-of-role : (s : Standing) (t : Seen) (answers : List Answer)
    → is_section_code (token_step t.kind (has_sign answers) s t.span).role ≡ true → is_section_kind t.kind ≡ true
kind-of-role s t answers h = grind (arith, nat_tests, not-both, plain-role)

-- a section begins with its code, and its parts with codes of theirs
section-begins : (text : List ℕ) (lines : List MergedLine) (size : ℕ) (t : Seen) (next : Standing)
    (kept : List SecName) (answers : List Answer) → next.part ≡ parts.Tex → IsCodeAt text t → AreOpeners text answers
    → SectionBeginsAt text t.span.start (section_at lines size t (placed_from next kept answers))
section-begins text lines size t next kept answers e c o = grind (arith, nat_tests, definitions-begin, c-part-begins)

begun : (text : List ℕ) (lines : List MergedLine) (size : ℕ) (s : Standing) (kept : List SecName)
    (answers : List Answer) → AreCoded text answers → AreOpeners text answers → AreBegun text
    (first_start ends_section size (placed_from s kept answers)) (sections_of lines size (placed_from s kept answers))
begun text lines size s kept [] c o = tt
begun text lines size s kept (Token t ∷ answers) c o =
    let step = token_step t.kind (has_sign answers) s t.span in
    let ps = placed_from step.next (kept_behind t kept) answers in
    begun-by text (is_section_code step.role) t.span.start (first_start ends_section size ps)
    (section_at lines size t ps) (sections_of lines size ps) (λ h. let k = kind-of-role s t answers h in
    section-begins text lines size t step.next (kept_behind t kept) answers (section-part s t answers k) (c.0 k) o.1)
    refl (begun text lines size step.next (kept_behind t kept) answers c.1 o.1)
begun text lines size s kept (Begin t ∷ answers) c o = begun text lines size (behind_begin s) kept answers c o
begun text lines size s kept (Finish t ∷ answers) c o = begun text lines size s kept answers c o
begun text lines size s kept (Note kind place ∷ answers) c o = begun text lines size s kept answers c o

-- ## No byte is lost

slices-join : (text : List ℕ) (from middle end : ℕ) → from ≤ middle → middle ≤ end
    → slice_range text from middle ++ slice_range text middle end ≡ slice_range text from end
slices-join text from middle end h g =
    let rest = take (end - from) (drop from text) in
    let first : take (middle - from) (drop from text) ≡ take (middle - from) rest =
    sym (take-take (middle - from) (end - from) (drop from text) (omega (arith, h, g))) in
    let last : take (end - middle) (drop middle text) ≡ drop (middle - from) rest = ap (take (end - middle)) (ap (λ n.
    drop n text) (omega (arith, h, g)) ∙ sym (drop-drop (middle - from) from text)) ∙ sym (drop-take (middle - from)
    (end - middle) (drop from text)) ∙ ap (λ n. drop (middle - from) (take n (drop from text))) (omega (arith, h, g)) in
    (λ i. first i ++ last i) ∙ take-append-drop (middle - from) rest

ends-behind : (from end : ℕ) (pieces : List Span) → EndToEnd from end pieces → from ≤ end
ends-behind from end [] e = omega (arith, e)
ends-behind from end (piece ∷ pieces) e = omega (arith, e.0, e.1, ends-behind piece.end end pieces e.2)

bytes-join : (text : List ℕ) (from end : ℕ) (pieces : List Span) → EndToEnd from end pieces
    → piece_bytes text pieces ≡ slice_range text from end
bytes-join text from end [] e = grind (arith, nat_tests)
bytes-join text from end (piece ∷ pieces) e =
    grind (arith, nat_tests, bytes-join text piece.end end pieces e.2, slices-join, ends-behind)

-- ## No byte stands in two pieces

has-not-before : (place : ℕ) (piece : Span) → place < piece.start → has_byte place piece ≡ false
has-not-before place piece h = grind arith

has-not-behind : (place : ℕ) (piece : Span) → piece.end ≤ place → has_byte place piece ≡ false
has-not-behind place piece h = grind arith

has : (place : ℕ) (piece : Span) → piece.start ≤ place → place < piece.end → has_byte place piece ≡ true
has place piece h g = grind arith

abbrev more_by : Bool → ℕ → ℕ
more_by b n = cond b 1 0 + n

abbrev by_one : ℕ → Span → ℕ
by_one place piece = cond (has_byte place piece) 1 0

none-before : (place from end : ℕ) (pieces : List Span) → EndToEnd from end pieces → place < from
    → pieces_with place pieces ≡ 0
none-before place from end [] e h = refl
none-before place from end (piece ∷ pieces) e h = sum_by-cons (by_one place) piece pieces
    ∙ (λ i. more_by (has-not-before place piece (omega (arith, e.0, h)) i)
    (none-before place piece.end end pieces e.2 (omega (arith, e.0, e.1, h)) i))

just-one : (place from end : ℕ) (pieces : List Span) → EndToEnd from end pieces → from ≤ place → place < end
    → pieces_with place pieces ≡ 1
just-one place from end [] e h g = absurd (omega (arith, e, h, g))
just-one place from end (piece ∷ pieces) e h g =
    by (cases_lt place piece.end) (λ k. just-one place piece.end end pieces e.2 k g)
  where
    by : (place < piece.end) ⊎ (piece.end ≤ place) → (piece.end ≤ place → pieces_with place pieces ≡ 1)
        → pieces_with place (piece ∷ pieces) ≡ 1
    by (inl here) rec = sum_by-cons (by_one place) piece pieces ∙ (λ i. more_by
        (has place piece (omega (arith, e.0, h)) here i) (none-before place piece.end end pieces e.2 here i))
    by (inr behind) rec = sum_by-cons (by_one place) piece pieces
        ∙ (λ i. more_by (has-not-behind place piece behind i) (rec behind i))

-- ## The law

whole : (text : List ℕ) (limbo : Span) (sections : List Section) → EndToEnd 0 (length text) (book_pieces limbo sections)
    → AreBegun text limbo.end sections → IsAllOf text limbo sections
whole text limbo sections e b = record {
  end_to_end = e;
  begun = b;
  bytes = bytes-join text 0 (length text) (book_pieces limbo sections) e ∙ all;
  once = λ place h. just-one place 0 (length text) (book_pieces limbo sections) e (omega arith) h;
}
  where
    all : slice_range text 0 (length text) ≡ text
    all = take_all (length text - 0) text (omega arith)

pub books-are-whole : BooksAreWhole
books-are-whole lines =
    let text = text_of lines in
    let size = length text in
    let scanned = answers_of lines in
    let ps = placed scanned in
    let all : answers_at text (beginning modes.Limbo) 0 ≡ scanned =
    ap (λ l. answers_at l (beginning modes.Limbo) 0) (sym (take_all size text (omega arith))) in
    let f = follows text 0 size at_limbo [] scanned
    (tokens-cover text 0 size modes.Limbo (omega arith) (omega arith)) in
    let c : AreCoded text scanned = subst (AreCoded text) all
    (coded text text (beginning modes.Limbo) (fresh_at text 0) (last_at text 0) 0 0 refl) in
    let o : AreOpeners text scanned = subst (AreOpeners text) all
    (openers text text (beginning modes.Limbo) (fresh_at text 0) (last_at text 0) 0 0 refl) in
    whole text (span 0 (first_start ends_section size ps)) (sections_of lines size ps)
    (refl, omega arith, lie lines 0 size ps f) (begun text lines size at_limbo [] scanned c o)
