-- Where limbo and plain TeX parts stand in the TeX file of a book, and in what is written of it.
use Rattle.std.proofs.Common.{◌≡◌, ℕ, zero, suc, ◌+◌, ◌==◌, Bool, true, false, ◌||◌, not, List, [], ◌∷◌, ◌++◌, Some}
use Rattle.std.proofs.Common.{codes, slice_get, take, inl, inr, refl, sym, ap, subst, ◌∙◌, arith, append_assoc}
use Rattle.std.proofs.Common.{eqb-true}
use Rattle.std.proofs.lemmas.Option.{none-some}
use Rattle.std.proofs.lemmas.Bool.Decides.{nat_tests}
use Rattle.cw_base.specs.Bytes.{newline}
use Rattle.cw_base.specs.declared.flags.Flags.{Flags}
use Rattle.cw_base.specs.declared.span.Span.{Span}
use Rattle.cw_index.specs.Closing.{closing_lines}
use Rattle.cw_lex.specs.Lexing.{last_after}
use Rattle.cw_lines.specs.Cut.{cut_behind}
use Rattle.cw_names.specs.Names.{Entry}
use Rattle.cw_press.specs.Footnotes.{footnotes}
use Rattle.cw_part.specs.Parts.{definitions_done, first_opening, part_by}
use Rattle.cw_weave.specs.Sections.{at_section, section_done, sections_done}
use Rattle.cw_part.specs.Sections.{ending, rest_done}
use Rattle.cw_phase1.specs.declared.book.Book.{Book}
use Rattle.cw_phase1.specs.declared.sections.Section.{Section}
use Rattle.cw_rules.specs.Bytes.{at_sign}
use Rattle.cw_rules.specs.declared.tokens.Mode.TheVariants as modes
use Rattle.cw_press.specs.Done.{Done}
use Rattle.cw_texpart.specs.Heads.{head}
use Rattle.cw_press.specs.Inks.{Ink, Print, LineEnd, bytes_of, end_if, inks, laid}
use Rattle.cw_texpart.specs.Limbo.{limbo_bytes, printed_limbo}
use Rattle.cw_press.specs.Beside.{beside_in}
use Rattle.cw_texpart.specs.TexParts.{tex_done}
use Rattle.cw_press.specs.Texts.{Setting, setting}
use Rattle.cw_texts.specs.Definitions.{printed_definitions}
use Rattle.cw_texts.specs.Scans.{scanned}
use Rattle.cw_weave.specs.TexFile.{all_sections, tex_file}
use Rattle.cw_laws.specs.Files.{EndInLine, HasLineEnd, HaveShortLines, written_of}
use Rattle.cw_laws.specs.TexText.{BeginsWith, HasNo, IsPlain, PlainTextIsKept, before_section, first_line, kept_bytes}
use Rattle.cw_laws.specs.TexText.{last_line_ended, plain_limbo, plain_tex}
use Rattle.cw_laws.proofs.CutLines.{written-append, written-short}
use Rattle.cw_laws.proofs.Endings.{behind-any, both-end, ends-then}
use Rattle.cw_laws.proofs.PlainText.{limbo-kept, limbo-of-web, no-c-text, tex-kept}

-- ## Limbo and sections end in lines

newline-ends : (byte : ℕ) (bytes : List ℕ) → byte ≡ newline → EndInLine bytes → HasLineEnd (byte ∷ bytes)
newline-ends byte bytes is (inl none) = grind (arith, nat_tests)
newline-ends byte bytes is (inr ended) = behind-any (byte ∷ []) bytes ended

-- what is laid, where the line of the book holds bytes or not
abbrev EndsBy : Bool → List ℕ → Type 0
EndsBy true bytes = HasLineEnd bytes
EndsBy false bytes = EndInLine bytes

any-ends : (holds : Bool) (bytes : List ℕ) → HasLineEnd bytes → EndsBy holds bytes
any-ends holds bytes ended = grind (arith, nat_tests)

print-ends : (t : Bool) (byte : ℕ) (is : List Ink) → (byte == newline) ≡ t → EndsBy (not t) (laid (not t) is)
    → HasLineEnd (byte ∷ laid (not (byte == newline)) is)
print-ends true byte is e rest = grind (arith, nat_tests, newline-ends, eqb-true)
print-ends false byte is e rest = grind (arith, nat_tests, behind-any (byte ∷ []) (laid true is) rest)

line-end-ends : (holds empty : Bool) (rest : List ℕ) → EndInLine rest → EndsBy holds (end_if (holds || empty) ++ rest)
line-end-ends holds empty rest e = grind (arith, nat_tests, ends-then)

laid-ends : (is : List Ink) (holds : Bool) → EndsBy holds (laid holds is)
laid-ends [] true = ([], refl)
laid-ends [] false = inl refl
laid-ends (Print byte ∷ is) holds = grind (arith, nat_tests, laid-ends is (not (byte == newline)), any-ends, print-ends)
laid-ends (LineEnd empty ∷ is) holds = line-end-ends holds empty (laid false is) (laid-ends is false)

limbo-ends : (text : List ℕ) (part : Span) → HasLineEnd (limbo_bytes text part)
limbo-ends text part = ends-then first_line (printed_limbo text part) (codes "\\input cwebmac", refl)
    (laid-ends (inks text (scanned modes.Limbo text part)) false)

section-ends : (s : Setting) (section : Section) (names : List Entry) → HasLineEnd (section_done s section names).out
section-ends s section names =
    let tex : Done ℕ = tex_done s section names in
    let definitions : Done ℕ = definitions_done s (first_opening (beside_in s section))
    (printed_definitions s.text section.definitions) tex.names in
    let part : Done ℕ = part_by (beside_in s section) s section definitions.names in
    behind-any tex.out (definitions.out ++ (part.out ++ ending s section))
    (behind-any definitions.out (part.out ++ ending s section) (behind-any part.out (ending s section)
    (behind-any (footnotes s section) (codes "\\fi\n\n") (codes "\\fi\n", refl))))

sections-end : (s : Setting) (n : ℕ) (sections : List Section) (names : List Entry)
    → EndInLine (sections_done s n sections names).out
sections-end s n [] names = inl refl
sections-end s n (section ∷ sections) names =
    let first : Done ℕ = section_done (at_section s n) section names in
    inr (ends-then first.out (sections_done s (suc n) sections first.names).out
    (section-ends (at_section s n) section names) (sections-end s (suc n) sections first.names))

before-ends : (text : List ℕ) (flags : Flags) (b : Book) (n : ℕ) → EndInLine (before_section text flags b n)
before-ends text flags b n =
    let sections : List Section = take n b.outline.sections in
    inr (ends-then (limbo_bytes text b.outline.limbo) (sections_done (setting text flags 0 b) 1 sections b.names).out
    (limbo-ends text b.outline.limbo) (sections-end (setting text flags 0 b) 1 sections b.names))

ends-after : (last : ℕ) (bytes : List ℕ) → last_after last bytes ≡ newline → EndInLine bytes
ends-after last [] is = inl refl
ends-after last (byte ∷ bytes) is = inr (by (ends-after byte bytes is))
  where
    by : EndInLine bytes → HasLineEnd (byte ∷ bytes)
    by (inl none) = newline-ends byte bytes (sym (ap (last_after byte) none) ∙ is) (inl none)
    by (inr ended) = behind-any (byte ∷ []) bytes ended

last-ends : (bytes : List ℕ) → EndInLine (last_line_ended bytes)
last-ends bytes = grind (arith, nat_tests, both-end, ends-after, eqb-true)

-- ## Where they stand in the file

-- the section behind so many others prints these bytes first
section-at : (s : Setting) (first n number : ℕ) (sections : List Section) (section : Section) (names : List Entry)
    (bytes : List ℕ) → number ≡ first + n → slice_get sections n ≡ Some section
    → ((names : List Entry) → (tex_done (at_section s number) section names).out ≡ bytes)
    → BeginsWith (sections_done s first (take n sections) names).out bytes (sections_done s first sections names).out
section-at s first n number [] section names bytes is found prints = absurd (none-some section found)
section-at s first zero number (one ∷ sections) section names bytes is found prints =
    let d : Done ℕ = section_done (at_section s first) one names in
    let tex : Done ℕ = tex_done (at_section s first) one names in
    let rest : Done ℕ = rest_done (at_section s first) one tex.names in
    let later : List ℕ = (sections_done s (suc first) sections d.names).out in
    let number_is : first ≡ number = omega arith in
    let same : one ≡ section = cc in record {
      rest = rest.out ++ later;
      is = append_assoc tex.out rest.out later ∙ ap (λ (l : List ℕ). l ++ (rest.out ++ later))
          (ap (λ (n : ℕ). (tex_done (at_section s n) one names).out) number_is
          ∙ ap (λ (x : Section). (tex_done (at_section s number) x names).out) same ∙ prints names);
    }
section-at s first (suc n) number (one ∷ sections) section names bytes is found prints =
    let d : Done ℕ = section_done (at_section s first) one names in
    let before : List ℕ = (sections_done s (suc first) (take n sections) d.names).out in
    let later : BeginsWith before bytes (sections_done s (suc first) sections d.names).out =
    section-at s (suc first) n number sections section d.names bytes (omega arith) found prints in record {
      rest = later.rest;
      is = ap (λ (l : List ℕ). d.out ++ l) later.is ∙ sym (append_assoc d.out before (bytes ++ later.rest));
    }

within : (limbo before bytes rest closing : List ℕ)
    → limbo ++ ((before ++ (bytes ++ rest)) ++ closing) ≡ (limbo ++ before) ++ (bytes ++ (rest ++ closing))
within limbo before bytes rest closing = simp append_assoc

limbo-in-file : (text : List ℕ) (flags : Flags) (b : Book) → HasNo at_sign (bytes_of text b.outline.limbo)
    → BeginsWith first_line (plain_limbo text b) (tex_file text flags b).out
limbo-in-file text flags b none =
    let rest : List ℕ = (all_sections text flags b).out ++ closing_lines flags b.outline.sections in record {
      rest = rest;
      is = append_assoc first_line (printed_limbo text b.outline.limbo) rest
          ∙ ap (λ (l : List ℕ). first_line ++ (l ++ rest)) (limbo-kept text b.outline.limbo none);
    }

tex-in-file : (text : List ℕ) (flags : Flags) (b : Book) (n : ℕ) (section : Section) → slice_get b.outline.sections n
    ≡ Some section → IsPlain (setting text flags (n + 1) b) section → BeginsWith (before_section text flags b n)
    (plain_tex (setting text flags (n + 1) b) section) (tex_file text flags b).out
tex-in-file text flags b n section found plain =
    let s : Setting = setting text flags 0 b in
    let closing : List ℕ = closing_lines flags b.outline.sections in
    let limbo : List ℕ = limbo_bytes text b.outline.limbo in
    let bytes : List ℕ = plain_tex (setting text flags (n + 1) b) section in
    let before : List ℕ = (sections_done s 1 (take n b.outline.sections) b.names).out in
    let all : BeginsWith before bytes (all_sections text flags b).out = section-at s 1 n
    (n + 1) b.outline.sections section b.names bytes (omega arith) found (λ (names : List Entry). ap
    (λ (d : Done ℕ). d.out) (tex-kept (setting text flags (n + 1) b) section names plain)) in record {
      rest = all.rest ++ closing;
      is = ap (λ (l : List ℕ). limbo ++ (l ++ closing)) all.is ∙ within limbo before bytes all.rest closing;
    }

-- ## Where they stand in what is written

written-begins : (before bytes file : List ℕ) → EndInLine before → EndInLine bytes → HaveShortLines bytes
    → BeginsWith before bytes file → BeginsWith (written_of before) bytes (written_of file)
written-begins before bytes file front ended short begins = record {
  rest = written_of begins.rest;
  is = ap written_of begins.is ∙ written-append before (bytes ++ begins.rest) front
      ∙ ap (λ (l : List ℕ). written_of before ++ l) (written-append bytes begins.rest ended
      ∙ ap (λ (l : List ℕ). l ++ written_of begins.rest) (written-short bytes ended short));
}

first-written : written_of first_line ≡ first_line
unfolding cut_behind
first-written = refl

limbo-written : (text : List ℕ) (flags : Flags) (b : Book) → HasNo at_sign (bytes_of text b.outline.limbo)
    → HaveShortLines (plain_limbo text b)
    → BeginsWith first_line (plain_limbo text b) (written_of (tex_file text flags b).out)
limbo-written text flags b none short = subst
    (λ (front : List ℕ). BeginsWith front (plain_limbo text b) (written_of (tex_file text flags b).out)) first-written
    (written-begins first_line (plain_limbo text b) (tex_file text flags b).out (inr (codes "\\input cwebmac", refl))
    (last-ends (kept_bytes text b.outline.limbo)) short (limbo-in-file text flags b none))

tex-written : (text : List ℕ) (flags : Flags) (b : Book) (n : ℕ) (section : Section)
    → slice_get b.outline.sections n ≡ Some section → IsPlain (setting text flags (n + 1) b) section
    → HaveShortLines (plain_tex (setting text flags (n + 1) b) section) → BeginsWith (written_of (before_section text
    flags b n)) (plain_tex (setting text flags (n + 1) b) section) (written_of (tex_file text flags b).out)
tex-written text flags b n section found plain short = written-begins (before_section text flags b n)
    (plain_tex (setting text flags (n + 1) b) section) (tex_file text flags b).out (before-ends text flags b n)
    (last-ends (head flags.ranged text (n + 1) section ++ bytes_of text section.tex)) short
    (tex-in-file text flags b n section found plain)

-- ## The law

pub plain-text-is-kept : PlainTextIsKept
plain-text-is-kept = record {
  limbo = limbo-kept;
  limbo_of_web = limbo-of-web;
  no_c_text = no-c-text;
  tex = tex-kept;
  limbo_in_file = limbo-in-file;
  tex_in_file = tex-in-file;
  limbo_written = limbo-written;
  tex_written = tex-written;
}
