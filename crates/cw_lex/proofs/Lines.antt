-- What begins at a line's end of C text.
use Rattle.std.proofs.Common.{◌≡◌, ℕ, Bool, true, false, List, [], ◌∷◌, slice_index, arith}
use Rattle.std.proofs.lemmas.Bool.Decides.{nat_tests}
use Rattle.cw_rules.specs.declared.{parts.Part.Part, parts.Opened.Opened}
use Rattle.cw_rules.specs.Tokens.{comment_end, in_hash_line, passed, line_end, is_code, is_code_part}
use Rattle.cw_rules.specs.{model.Apart.part_text_apart, model.Apart.in_text_apart, model.Apart.code_text_apart}
use Rattle.cw_rules.specs.{Answers.before}
use Rattle.cw_lex.specs.{Lexing.last_at, model.Coming.found_at}

-- where C text goes on, the rules of C text hold
pub part_text-code : (part : Part) (fresh : Bool) (last place byte : ℕ) (bytes : List ℕ) → is_code_part part ≡ true
    → part_text_apart part (record { part = part; comments = [] }) fresh last place byte bytes
    ≡ code_text_apart (record { part = part; comments = [] }) fresh last place byte bytes
part_text-code part fresh last place byte bytes h = grind arith

pub in_text-code : (part : Part) (comments : List Opened) (fresh : Bool) (last place byte : ℕ) (bytes : List ℕ)
    → is_code part comments ≡ true → in_text_apart part comments fresh last place byte bytes
    ≡ code_text_apart (record { part = part; comments = comments }) fresh last place byte bytes
in_text-code part [] fresh last place byte bytes h = part_text-code part fresh last place byte bytes h
in_text-code part (c ∷ comments) fresh last place byte bytes h = grind (arith, nat_tests)

pub found-newline : (text : List ℕ) (part : Part) (comments : List Opened) (place : ℕ) → slice_index text place ≡ 10
    → is_code part comments ≡ true → found_at text (record { part = part; comments = comments }) place
    ≡ line_end part comments (last_at text place) place
found-newline text part comments place h code = grind (arith, nat_tests, in_text-code)

-- a line's end ends the text of a short comment
pub found-comment-line : (text : List ℕ) (part : Part) (start braces place : ℕ) (long : Bool) (rest : List Opened)
    → slice_index text place ≡ 10 → long ≡ false → found_at text (record
    { part = part; comments = record { start = start; long = long; braces = braces; inner = false } ∷ rest }) place
    ≡ before (comment_end (in_hash_line part) (record { start = start; long = long; braces = braces; inner = false })
    place 0 []) (line_end part rest (last_at text place) place)
found-comment-line text part start braces place long rest line short = grind (arith, nat_tests)

pub in_hash_line-passed : (part : Part) → in_hash_line (passed part) ≡ in_hash_line part
in_hash_line-passed part = grind arith
