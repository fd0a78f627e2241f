-- What holds of calm C text, and of its white space.
use Rattle.std.proofs.Common.{◌≡◌, ℕ, ◌+◌, Bool, true, false, ◌&&◌, List, [], ◌∷◌, ◌++◌, slice_index, drop, ap, length}
use Rattle.std.proofs.Common.{arith}
use Rattle.std.proofs.{lemmas.List.drop_all, lemmas.Bool.Decides.nat_tests}
use Rattle.cw_rules.specs.declared.classes.Class.TheVariants as classes
use Rattle.cw_rules.specs.declared.{parts.Part.Part, parts.Opened.Opened}
use Rattle.cw_rules.specs.{Answers.note_answers, Bytes.is_in, Bytes.run, Pending.pending_notes, Tokens.all_cut}
use Rattle.cw_rules.specs.Tokens.{is_code, is_code_part, in_hash_line, behind_hash, behind_include, passed, ends_at_bar}
use Rattle.cw_rules.specs.Tokens.{part_cut}
use Rattle.cw_lex.specs.{declared.state.State.State, Lexing.answers_at, Lexing.last_at, model.Calm.is_calm_part}
use Rattle.cw_lex.specs.{model.Calm.is_calm}
use Rattle.cw_lex.specs.model.Coming.{where_of, coming, ends_line, is_white_here}
use Rattle.cw_lex.proofs.{White.white-found, HeadSpaces.skip-run, HeadSpaces.run-byte}

and-both : (a b : Bool) → (a && b) ≡ true → (a ≡ true) × (b ≡ true)
and-both a b h = grind arith

-- what holds of a calm part
pub record IsSettled (part : Part) : Type 0 where
  pub code : is_code_part part ≡ true
  pub same : passed part ≡ part
  pub hash_line : in_hash_line part ≡ false
  pub include : behind_include part ≡ false
  pub hash : behind_hash part ≡ false

settled : (part : Part) → is_calm_part part ≡ true → IsSettled part
settled part h = grind arith

pub calm-part : (part : Part) (comments : List Opened) → is_calm part comments ≡ true → IsSettled part
calm-part part comments h = grind (arith, settled, and-both)

pub calm-code : (part : Part) (comments : List Opened) → is_calm part comments ≡ true → is_code part comments ≡ true
calm-code part comments h = grind (arith, settled, and-both)

calm-line : (part : Part) (comments : List Opened) (last : ℕ) → is_calm part comments ≡ true
    → ends_line part comments last ≡ false
calm-line part comments last h = grind (arith, settled, nat_tests, and-both)

calm-space : (part : Part) (comments : List Opened) (last b : ℕ) (bs : List ℕ) → is_calm part comments ≡ true
    → is_in classes.White b ≡ true → is_white_here part comments last b bs ≡ true
calm-space part comments last b bs calm h = grind (arith, nat_tests, calm-line)

-- behind the white space the same answers come
pub calm-coming : (text : List ℕ) (s : State) (size : ℕ) → is_calm s.part s.comments ≡ true
    → size ≡ run classes.White (drop s.at text) → coming text (record s { at = s.at + size }) ≡ coming text s
calm-coming text s size calm e = ap (λ l. note_answers (pending_notes text s.pending) ++ l)
    (skip-run text (where_of s) s.at size (λ p low high.
    let here = run-byte classes.White text s.at size p e low high in (
      here.0,
      white-found text s.part s.comments p (calm-code s.part s.comments calm)
          (calm-space s.part s.comments (last_at text p) (slice_index text p) (drop (p + 1) text) calm here.1),
    )))

-- at the end of the text nothing is open but inner C text, which a bar ends
bar-around : (part : Part) (c : Opened) (comments : List Opened) → ends_at_bar part (c ∷ comments) ≡ true
bar-around part c comments = grind arith

part-uncut : (part : Part) (place about : ℕ) → is_calm_part part ≡ true → ends_at_bar part [] ≡ false
    → part_cut part place about ≡ []
part-uncut part place about h e = grind arith

calm-uncut : (part : Part) (comments : List Opened) (place about : ℕ) → is_calm part comments ≡ true
    → ends_at_bar part comments ≡ false → all_cut part comments place about ≡ []
calm-uncut part comments place about h e = grind (arith, part-uncut, bar-around)

pub calm-end : (text : List ℕ) (part : Part) (comments : List Opened) (place : ℕ) → is_calm part comments ≡ true
    → place ≡ length text
    → ends_at_bar part comments ≡ false → answers_at text (record { part = part; comments = comments }) place ≡ []
calm-end text part comments place calm end e = grind (arith, nat_tests, drop_all, calm-uncut)
