-- White space of C text, and what the bytes before a place say of it.
use Rattle.std.proofs.Common.{◌≡◌, ℕ, ◌+◌, ◌-◌, ◌<◌, ◌≤◌, Bool, true, false, ◌&&◌, ◌==◌, List, length, slice_index}
use Rattle.std.proofs.Common.{drop, refl, ap, ◌∙◌, arith, if◌then◌else◌}
use Rattle.std.proofs.{lemmas.Bool.eqb-true, lemmas.Bool.Decides.nat_tests}
use Rattle.cw_base.proofs.TestLaws.{and-false, not-true}
use Rattle.cw_rules.specs.declared.{parts.Part.Part, parts.Opened.Opened}
use Rattle.cw_rules.specs.{Answers.Where, Bytes.is_in, Codes.begins_section, model.Apart.in_text_apart}
use Rattle.cw_rules.specs.{model.Apart.code_text_apart}
use Rattle.cw_lex.specs.{Lexing.fresh_at, Lexing.last_at, model.Coming.ends_line, model.Coming.is_white_here}
use Rattle.cw_lex.specs.{model.Coming.found_at}
use Rattle.cw_rules.specs.Tokens.{section, line_end, is_space, in_hash_line, skipped_byte, is_code}
use Rattle.cw_lex.proofs.{Lines.in_text-code, Lines.found-newline, Walk.fresh-here, Walk.last-here}
use Rattle.cw_rules.specs.declared.classes.Class.TheVariants as classes

-- a byte that passes a test is none that fails it
pub other-byte : (test : ℕ → Bool) (b n : ℕ) → test b ≡ true → test n ≡ false → (b == n) ≡ false
other-byte test b n h f = grind (arith, nat_tests, eqb-true)

space-not-at : (part : Part) (b : ℕ) (bs : List ℕ) → is_space part b bs ≡ true → (b == 64) ≡ false
space-not-at part b bs h = other-byte (λ b. is_space part b bs) b 64 h (and-false (in_hash_line part))

line_end-white : (part : Part) (comments : List Opened) (last place : ℕ) → ends_line part comments last ≡ false
    → line_end part comments last place ≡ skipped_byte (record { part = part; comments = comments })
line_end-white part comments last place h = grind (arith, nat_tests)

code_text-space : (w : Where) (fresh : Bool) (last place b : ℕ) (bs : List ℕ) → (b == 10) ≡ false
    → is_space w.part b bs ≡ true → code_text_apart w fresh last place b bs ≡ skipped_byte w
code_text-space w fresh last place b bs e h = rw (e, h) refl

-- white space gives no answer
pub white-found : (text : List ℕ) (part : Part) (comments : List Opened) (place : ℕ) → is_code part comments ≡ true
    → is_white_here part comments (last_at text place) (slice_index text place) (drop (place + 1) text) ≡ true
    → found_at text (record { part = part; comments = comments }) place
    ≡ skipped_byte (record { part = part; comments = comments })
white-found text part comments place code h = by (slice_index text place == 10) refl
  where
    by : (t : Bool) → (slice_index text place == 10) ≡ t → found_at text
        (record { part = part; comments = comments }) place ≡ skipped_byte (record { part = part; comments = comments })
    by true e =
        let ends : ends_line part comments (last_at text place) ≡ false = grind (arith, nat_tests, not-true) in
        found-newline text part comments place (eqb-true (slice_index text place) 10 e) code
        ∙ line_end-white part comments (last_at text place) place ends
    by false e =
        let space : is_space part (slice_index text place) (drop (place + 1) text) ≡ true = grind (arith, nat_tests) in
        ap (λ t. if t && begins_section (drop (place + 1) text) then section
        (record { part = part; comments = comments }) place (drop (place + 1) text)
        else in_text_apart part comments (fresh_at text place) (last_at text place) place (slice_index text place)
        (drop (place + 1) text))
        (space-not-at part (slice_index text place) (drop (place + 1) text) space)
        ∙ in_text-code part comments (fresh_at text place) (last_at text place) place (slice_index text place)
        (drop (place + 1) text) code
        ∙ code_text-space (record { part = part; comments = comments }) (fresh_at text place) (last_at text place) place
        (slice_index text place) (drop (place + 1) text) e space

-- what the byte before a place says of it
pub fresh-blank : (text : List ℕ) (k : ℕ) → 0 < k → k ≤ length text → is_in classes.Blank (slice_index text (k - 1))
    ≡ true → fresh_at text (k - 1) ≡ fresh_at text k
fresh-blank text k some within h = grind (arith, fresh-here text (k - 1) (omega arith))

pub fresh-other : (text : List ℕ) (k : ℕ) → 0 < k → k ≤ length text → is_in classes.Blank (slice_index text (k - 1))
    ≡ false → (slice_index text (k - 1) == 10) ≡ fresh_at text k
fresh-other text k some within h =
    grind (arith, and-false (fresh_at text (k - 1)), fresh-here text (k - 1) (omega arith))

pub last-byte : (text : List ℕ) (k : ℕ) → 0 < k → k ≤ length text → slice_index text (k - 1) ≡ last_at text k
last-byte text k some within = grind (arith, nat_tests, last-here)
