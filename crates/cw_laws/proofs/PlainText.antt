-- TeX text and limbo without an `@`, and TeX text without a bar, are one token, which is copied.
use Rattle.std.proofs.Common.{◌≡◌, ◌≢◌, ℕ, zero, suc, ◌+◌, ◌-◌, ◌==◌, Bool, true, false, ◌&&◌, ◌||◌, not, All, List, []}
use Rattle.std.proofs.Common.{◌∷◌, ◌++◌, if◌then◌else◌, length, drop, take, slice_index, slice_range, codes, refl, sym}
use Rattle.std.proofs.Common.{ap, subst, ◌∙◌, arith, append_assoc, ne_eqb, eqb-true}
use Rattle.std.proofs.Math.Seq.{drop-nil}
use Rattle.std.proofs.lemmas.List.{append-nil, length-take, take_min}
use Rattle.std.proofs.lemmas.List.Elements.{All-cons, All-head, All-nil, All-tail}
use Rattle.std.proofs.lemmas.Bool.Decides.{nat_tests}
use Rattle.cw_base.specs.declared.span.Span.{Span}
use Rattle.cw_rules.specs.declared.classes.Class.{Class}
use Rattle.cw_rules.specs.declared.classes.Class.TheVariants as classes
use Rattle.cw_rules.specs.declared.tokens.Mode.{Mode}
use Rattle.cw_rules.specs.declared.tokens.Mode.TheVariants as modes
use Rattle.cw_rules.specs.declared.tokens.TokKind.TheVariants as kinds
use Rattle.cw_rules.specs.declared.parts.Part.TheVariants as parts
use Rattle.cw_rules.specs.Answers.{Answer, Token, Where, ScanStep, plain as cut_plain, token_of}
use Rattle.cw_base.specs.Bytes.{newline}
use Rattle.cw_base.specs.Web.{MergedLine, text_of}
use Rattle.cw_rules.specs.Bytes.{at_sign, is_in, run}
use Rattle.cw_base.specs.Text.{bar}
use Rattle.cw_rules.specs.Codes.{begins_section, code_at, effect_in_limbo, effect_in_tex}
use Rattle.cw_rules.specs.Tokens.{all_cut, inner_begin, limbo_by, moved, one, section, tex_by}
use Rattle.cw_rules.specs.model.Apart.{found_apart}
use Rattle.cw_lex.specs.Lexing.{answers, beginning, fresh_at, joined, last_after, last_at, still_fresh}
use Rattle.cw_names.specs.Names.{Entry}
use Rattle.cw_phase1.specs.Book.{book}
use Rattle.cw_phase1.specs.declared.sections.Section.{Section}
use Rattle.cw_press.specs.Done.{Done, done_behind, as_it_is, reprinted}
use Rattle.cw_texpart.specs.Heads.{head, head_by, printed_depth}
use Rattle.cw_print.specs.Walk.{section_number}
use Rattle.cw_press.specs.Inks.{Ink, bytes_of, copied, end_if, ends_empty_line, ink_by, inks, laid}
use Rattle.cw_texpart.specs.Limbo.{printed_limbo}
use Rattle.cw_texts.specs.Scans.{scanned}
use Rattle.cw_texpart.specs.TexParts.{pieces_done, head_and_tex, tex_done}
use Rattle.cw_texts.specs.TexPieces.{Copied, tex_pieces_of, tex_pieces}
use Rattle.cw_phase1.specs.Sections.{span as span_of}
use Rattle.cw_press.specs.Texts.{Setting}
use Rattle.cw_laws.specs.TexText.{HasNo, IsPlain, behind_line_end, is_copied, kept_bytes, last_line_ended, plain_tex}
use Rattle.cw_lex.proofs.Covering.{drop-on}

-- ## What the scanner answers

run-all : (class : Class) (bytes : List ℕ) → All (λ b. is_in class b ≡ true) bytes → run class bytes ≡ length bytes
run-all class [] h = refl
run-all class (byte ∷ bytes) h =
    let more : run class bytes ≡ length bytes =
    run-all class bytes (All-tail (λ b. is_in class b ≡ true) byte bytes h) in
    ap (λ t. if t then 1 + run class bytes else 0)
    (All-head (λ b. is_in class b ≡ true) byte bytes h) ∙ ap (λ n. 1 + n) more ∙ omega arith

is-not : (wanted byte : ℕ) (bytes : List ℕ) → HasNo wanted (byte ∷ bytes) → (byte == wanted) ≡ false
is-not wanted byte bytes h = ne_eqb byte wanted (All-head (λ b. b ≢ wanted) byte bytes h)

rest-has-no : (wanted byte : ℕ) (bytes : List ℕ) → HasNo wanted (byte ∷ bytes) → HasNo wanted bytes
rest-has-no wanted byte bytes h = All-tail (λ b. b ≢ wanted) byte bytes h

all-limbo : (bytes : List ℕ) → HasNo at_sign bytes → All (λ b. is_in classes.LimboText b ≡ true) bytes
all-limbo [] h = All-nil (λ b. is_in classes.LimboText b ≡ true)
all-limbo (byte ∷ bytes) h = All-cons (λ b. is_in classes.LimboText b ≡ true) byte bytes
    (ap not (is-not at_sign byte bytes h)) (all-limbo bytes (rest-has-no at_sign byte bytes h))

all-tex : (bytes : List ℕ) → HasNo at_sign bytes → HasNo bar bytes → All (λ b. is_in classes.TexText b ≡ true) bytes
all-tex [] h g = All-nil (λ b. is_in classes.TexText b ≡ true)
all-tex (byte ∷ bytes) h g = All-cons (λ b. is_in classes.TexText b ≡ true) byte bytes
    (λ i. not (is-not at_sign byte bytes h i || is-not bar byte bytes g i))
    (all-tex bytes (rest-has-no at_sign byte bytes h) (rest-has-no bar byte bytes g))

-- Bytes that all belong to the answer before them give none, where nothing is open.
nothing-left : (w : Where) → ((place about : ℕ) → all_cut w.part w.comments place about ≡ []) → (bytes : List ℕ)
    (fresh : Bool) (last place n : ℕ) → n ≡ length bytes → answers bytes w fresh last place n ≡ []
nothing-left w cut [] fresh last place n e = cut place (place - 1)
nothing-left w cut (byte ∷ bytes) fresh last place zero e = absurd (omega (arith, e))
nothing-left w cut (byte ∷ bytes) fresh last place (suc n) e =
    nothing-left w cut bytes (still_fresh fresh byte) byte (place + 1) n (omega (arith, e))

-- one token of text
abbrev text_answers : ℕ → List ℕ → List Answer
text_answers place [] = []
text_answers place (byte ∷ bytes) = Token (token_of false kinds.Text place (length (byte ∷ bytes)) (byte ∷ bytes)) ∷ []

one-token : (class : Class) (w : Where) → ((place about : ℕ) → all_cut w.part w.comments place about ≡ [])
    → (fresh : Bool) (last place byte : ℕ) (bytes : List ℕ) → All (λ b. is_in class b ≡ true) (byte ∷ bytes)
    → found_apart w fresh last place byte bytes ≡ one false w place (byte ∷ bytes) (cut_plain kinds.Text
    (run class (byte ∷ bytes))) → answers (byte ∷ bytes) w fresh last place zero ≡ text_answers place (byte ∷ bytes)
one-token class w cut fresh last place byte bytes all is = ap (λ (f : ScanStep). joined f
    (λ next more. answers bytes next
    (still_fresh fresh byte) byte (place + 1) more)) is ∙ ap (λ (n : ℕ). Token (token_of false kinds.Text place n (byte
    ∷ bytes)) ∷ answers bytes w (still_fresh fresh byte) byte (place + 1) (n - 1)) (run-all class (byte ∷ bytes) all)
    ∙ ap (λ (l : List Answer). Token (token_of false kinds.Text place (length (byte ∷ bytes)) (byte ∷ bytes)) ∷ l)
    (nothing-left w cut bytes (still_fresh fresh byte) byte (place + 1) (length (byte ∷ bytes) - 1) (omega arith))

limbo-answers : (bytes : List ℕ) (fresh : Bool) (last place : ℕ) → HasNo at_sign bytes
    → answers bytes (beginning modes.Limbo) fresh last place zero ≡ text_answers place bytes
limbo-answers [] fresh last place h = refl
limbo-answers (byte ∷ bytes) fresh last place h =
    let w : Where = beginning modes.Limbo in
    one-token classes.LimboText w (λ p a. refl) fresh last place byte bytes (all-limbo (byte ∷ bytes) h)
    (ap (λ t. if t && begins_section bytes then section w place bytes else if t then limbo_by
    (effect_in_limbo (code_at bytes)) (code_at bytes) w place (byte ∷ bytes) else one false w place (byte ∷ bytes)
    (cut_plain kinds.Text (run classes.LimboText (byte ∷ bytes)))) (is-not at_sign byte bytes h))

tex-answers : (bytes : List ℕ) (fresh : Bool) (last place : ℕ) → HasNo at_sign bytes → HasNo bar bytes
    → answers bytes (beginning modes.TexText) fresh last place zero ≡ text_answers place bytes
tex-answers [] fresh last place h g = refl
tex-answers (byte ∷ bytes) fresh last place h g =
    let w : Where = beginning modes.TexText in
    one-token classes.TexText w (λ p a. refl) fresh last place byte bytes (all-tex (byte ∷ bytes) h g) (ap (λ t. if t &&
    begins_section bytes then section w place bytes else if t then tex_by (effect_in_tex (code_at bytes)) (code_at
    bytes) w place (byte ∷ bytes) else if byte == bar then inner_begin false (moved w parts.TexInner) place (byte
    ∷ bytes) else one false w place (byte ∷ bytes) (cut_plain kinds.Text (run classes.TexText (byte ∷ bytes)))) (is-not
    at_sign byte bytes h) ∙ ap (λ u. if u then inner_begin false (moved w parts.TexInner) place (byte ∷ bytes) else one
    false w place (byte ∷ bytes) (cut_plain kinds.Text (run classes.TexText (byte ∷ bytes)))) (is-not bar byte bytes g))

-- ## Where the bytes stand

part-bytes : (start end : ℕ) (text : List ℕ) → drop start (take end text) ≡ slice_range text start end
part-bytes zero end text = let e : end ≡ end - zero = omega arith in ap (λ n. take n text) e
part-bytes (suc start) zero text =
    let e : zero ≡ zero - suc start = omega arith in drop-nil (suc start) ∙ ap (λ n. take n (drop (suc start) text)) e
part-bytes (suc start) (suc end) [] = nothing (suc end - suc start)
  where
    nothing : (n : ℕ) → ◌≡◌ {A = List ℕ} [] (take n [])
    nothing zero = refl
    nothing (suc n) = refl
part-bytes (suc start) (suc end) (byte ∷ text) =
    let e : end - start ≡ suc end - suc start = omega arith in
    part-bytes start end text ∙ ap (λ n. take n (drop start text)) e

scanned-is : (mode : Mode) (text : List ℕ) (part : Span) → scanned mode text part
    ≡ answers (bytes_of text part) (beginning mode) (fresh_at (take part.end text) part.start)
    (last_at (take part.end text) part.start) part.start zero
scanned-is mode text part = ap (λ (l : List ℕ). answers l (beginning mode) (fresh_at (take part.end text) part.start)
    (last_at (take part.end text) part.start) part.start zero) (part-bytes part.start part.end text)

-- so many bytes of the text from there on are these
same-bytes : (text : List ℕ) (part : Span)
    → bytes_of text (span_of part.start (part.start + length (bytes_of text part))) ≡ bytes_of text part
same-bytes text part =
    let n : ℕ = part.end - part.start in
    let rest_of_part : List ℕ = drop part.start text in
    let size : part.start + length (take n rest_of_part) - part.start ≡ length (take n rest_of_part) = omega arith in
    ap (λ k. take k rest_of_part) (size ∙ length-take n rest_of_part) ∙ take_min n rest_of_part

abbrev StandAt : List ℕ → ℕ → List ℕ → Type 0
StandAt text place [] = Unit {0}
StandAt text place (byte ∷ bytes) = (slice_index text place ≡ byte) × StandAt text (place + 1) bytes

index-at : (text : List ℕ) (place byte : ℕ) (bytes : List ℕ) → drop place text ≡ byte ∷ bytes
    → slice_index text place ≡ byte
index-at [] place byte bytes e = let wrong : [] ≡ byte ∷ bytes = sym (drop-nil place) ∙ e in absurd cc
index-at (first ∷ text) zero byte bytes e = ap (λ l. slice_index l 0) e
index-at (first ∷ text) (suc place) byte bytes e = index-at text place byte bytes e

stand-in : (text rest : List ℕ) (place n : ℕ) → drop place text ≡ rest → StandAt text place (take n rest)
stand-in text [] place zero e = tt
stand-in text [] place (suc n) e = tt
stand-in text (byte ∷ rest) place zero e = tt
stand-in text (byte ∷ rest) place (suc n) e =
    (index-at text place byte rest e, stand-in text rest (place + 1) n (drop-on text place byte rest e))

stand : (text : List ℕ) (part : Span) → StandAt text part.start (bytes_of text part)
stand text part = stand-in text (drop part.start text) part.start (part.end - part.start) refl

-- ## What is printed

text-inks : (text : List ℕ) (place : ℕ) (bytes : List ℕ) → bytes_of text (span_of place (place + length bytes)) ≡ bytes
    → inks text (text_answers place bytes) ≡ copied text place bytes
text-inks text place [] e = refl
text-inks text place (byte ∷ bytes) e = append-nil
    (copied text place (bytes_of text (span_of place (place + length (byte ∷ bytes))))) ∙ ap (copied text place) e

text-pieces : (place : ℕ) (bytes : List ℕ)
    → All (λ piece. is_copied piece ≡ true) (tex_pieces zero zero (text_answers place bytes))
text-pieces place [] = All-nil (λ piece. is_copied piece ≡ true)
text-pieces place (byte ∷ bytes) = All-cons (λ piece. is_copied piece ≡ true) (Copied (token_of false kinds.Text place
    (length (byte ∷ bytes)) (byte ∷ bytes))) [] refl (All-nil (λ piece. is_copied piece ≡ true))

text-done : (s : Setting) (place : ℕ) (bytes : List ℕ) (names : List Entry)
    → bytes_of s.text (span_of place (place + length bytes)) ≡ bytes
    → pieces_done s (tex_pieces zero zero (text_answers place bytes)) names ≡ as_it_is (copied s.text place bytes) names
text-done s place [] names e = refl
text-done s place (byte ∷ bytes) names e = ap (λ (out : List Ink). as_it_is out names) (append-nil (copied s.text place
    (bytes_of s.text (span_of place (place + length (byte ∷ bytes))))) ∙ ap (copied s.text place) e)

-- A byte is printed, also a line's end where its line holds bytes or is empty, and then what is behind it.
one-laid : (text : List ℕ) (holds : Bool) (byte : ℕ) (bytes more : List ℕ) (place : ℕ)
    → (holds || ends_empty_line text place) ≡ true → laid (not (byte == newline)) (copied text (place + 1) bytes) ≡ more
    → laid holds (copied text place (byte ∷ bytes)) ≡ byte ∷ more
one-laid text holds byte bytes more place h rest = by (byte == newline) refl
  where
    by : (t : Bool) → (byte == newline) ≡ t
        → laid holds (ink_by t text place byte ∷ copied text (place + 1) bytes) ≡ byte ∷ more
    by true e = ap (λ b. end_if b ++ laid false (copied text (place + 1) bytes)) h
        ∙ ap (λ t. newline ∷ laid (not t) (copied text (place + 1) bytes)) (sym e)
        ∙ ap (λ (l : List ℕ). newline ∷ l) rest ∙ ap (λ b. b ∷ more) (sym (eqb-true byte newline e))
    by false e = ap (λ (l : List ℕ). byte ∷ l) rest

-- Behind a byte each line's end is printed: its line holds bytes, or is empty.
line-ends : (text : List ℕ) (place last : ℕ) → slice_index text place ≡ last
    → (not (last == newline) || ends_empty_line text (place + 1)) ≡ true
line-ends text place last before =
    let back : (place + 1) - 1 ≡ place = omega arith in
    ap (λ n. not (last == newline) || ((place + 1) == 0 || slice_index text n == newline)) back ∙ ap (λ b. not
    (last == newline) || ((place + 1) == 0 || b == newline)) before ∙ either (last == newline) ((place + 1) == 0)
  where
    either : (t u : Bool) → (not t || (u || t)) ≡ true
    either true true = refl
    either true false = refl
    either false u = refl

laid-behind : (text bytes : List ℕ) (place last : ℕ) → slice_index text place ≡ last → StandAt text (place + 1) bytes
    → laid (not (last == newline)) (copied text (place + 1) bytes)
    ≡ bytes ++ end_if (not (last_after last bytes == newline))
laid-behind text [] place last before at = refl
laid-behind text (byte ∷ bytes) place last before at = one-laid text (not (last == newline)) byte bytes
    (bytes ++ end_if (not (last_after byte bytes == newline))) (place + 1) (line-ends text place last before)
    (laid-behind text bytes (place + 1) byte at.0 at.1)

laid-limbo : (text : List ℕ) (start : ℕ) (bytes : List ℕ) → StandAt text start bytes → laid false
    (copied text start bytes) ≡ last_line_ended (if ends_empty_line text start then bytes else behind_line_end bytes)
laid-limbo text start bytes at = grind (arith, nat_tests, laid-behind, one-laid, eqb-true)

laid-tex : (text : List ℕ) (start : ℕ) (bytes : List ℕ) (last : ℕ) → (last == newline) ≡ false → StandAt text start
    bytes → laid true (copied text start bytes) ≡ bytes ++ end_if (not (last_after last bytes == newline))
laid-tex text start [] last h at = ap (λ t. end_if (not t)) (sym h)
laid-tex text start (byte ∷ bytes) last h at = one-laid text true byte bytes
    (bytes ++ end_if (not (last_after byte bytes == newline))) start refl (laid-behind text bytes start byte at.0 at.1)

-- ## Behind a head

last-append : (last : ℕ) (xs ys : List ℕ) → last_after last (xs ++ ys) ≡ last_after (last_after last xs) ys
last-append last [] ys = refl
last-append last (x ∷ xs) ys = last-append x xs ys

-- a head ends with its brace
head-last : (starred : Bool) (depth number : List ℕ)
    → (last_after newline (head_by starred depth number) == newline) ≡ false
head-last true depth number =
    ap (λ b. b == newline) (last-append newline (codes "\\N{" ++ depth ++ codes "}{" ++ number) (codes "}"))
head-last false depth number = ap (λ b. b == newline) (last-append newline (codes "\\M{" ++ number) (codes "}"))

behind-head : (front bytes : List ℕ) → front ++ (bytes ++ end_if
    (not (last_after (last_after newline front) bytes == newline))) ≡ last_line_ended (front ++ bytes)
behind-head front bytes = sym (append_assoc front bytes (end_if (not (last_after (last_after newline front) bytes ==
    newline)))) ∙ ap (λ b. (front ++ bytes) ++ end_if (not (b == newline))) (sym (last-append newline front bytes))

-- ## What parts print

pub limbo-kept : (text : List ℕ) (part : Span) → HasNo at_sign (bytes_of text part)
    → printed_limbo text part ≡ last_line_ended (kept_bytes text part)
limbo-kept text part h =
    let fresh : Bool = fresh_at (take part.end text) part.start in
    let last : ℕ = last_at (take part.end text) part.start in
    ap (λ (l : List Answer). laid false (inks text l)) (scanned-is modes.Limbo text part
    ∙ limbo-answers (bytes_of text part) fresh last part.start h) ∙ ap (laid false) (text-inks text part.start
    (bytes_of text part) (same-bytes text part)) ∙ laid-limbo text part.start (bytes_of text part) (stand text part)

kept-from-start : (text : List ℕ) (part : Span) → part.start ≡ 0 → kept_bytes text part ≡ bytes_of text part
kept-from-start text part is = ap (λ (n : ℕ). if n == 0 || slice_index text
    (n - 1) == newline then bytes_of text part else behind_line_end (bytes_of text part)) is

pub limbo-of-web : (lines : List MergedLine)
    → kept_bytes (text_of lines) (book lines).outline.limbo ≡ bytes_of (text_of lines) (book lines).outline.limbo
limbo-of-web lines = kept-from-start (text_of lines) (book lines).outline.limbo refl

tex-scanned : (text : List ℕ) (part : Span) → HasNo at_sign (bytes_of text part) → HasNo bar (bytes_of text part)
    → scanned modes.TexText text part ≡ text_answers part.start (bytes_of text part)
tex-scanned text part h g = scanned-is modes.TexText text part ∙ tex-answers (bytes_of text part)
    (fresh_at (take part.end text) part.start) (last_at (take part.end text) part.start) part.start h g

pub no-c-text : (text : List ℕ) (part : Span) → HasNo at_sign (bytes_of text part) → HasNo bar (bytes_of text part)
    → All (λ piece. is_copied piece ≡ true) (tex_pieces_of text part)
no-c-text text part h g = subst (λ (l : List Answer). All (λ piece. is_copied piece ≡ true) (tex_pieces zero zero l))
    (sym (tex-scanned text part h g)) (text-pieces part.start (bytes_of text part))

pub tex-kept : (s : Setting) (section : Section) (names : List Entry) → IsPlain s section
    → tex_done s section names ≡ as_it_is (plain_tex s section) names
tex-kept s section names plain =
    let front : List ℕ = head s.flags.ranged s.text s.section section in
    let bytes : List ℕ = bytes_of s.text section.tex in
    let start : ℕ = section.tex.start in
    ap (λ (b : Bool). head_and_tex b front s section names) plain.alone
    ∙ ap (λ (l : List Answer). done_behind front (reprinted (laid true) (pieces_done s (tex_pieces zero zero l) names)))
    (tex-scanned s.text section.tex plain.no_code plain.no_bar) ∙ ap (λ (d : Done Ink). done_behind front
    (reprinted (laid true) d)) (text-done s start bytes names (same-bytes s.text section.tex)) ∙ ap
    (λ (l : List ℕ). as_it_is (front ++ l) names) (laid-tex s.text start bytes (last_after newline front) (head-last
    section.starred (printed_depth s.flags.ranged s.text section.depth) (section_number s.section section.changed))
    (stand s.text section.tex)) ∙ ap (λ (l : List ℕ). as_it_is l names) (behind-head front bytes)
