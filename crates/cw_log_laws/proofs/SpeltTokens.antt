-- The text of an identifier is a letter, and letters and digits behind it, in all answers of the scanner.
use Rattle.cw_log_laws.proofs.Terms.{◌≡◌, ℕ, zero, suc, ◌+◌, Bool, true, false, ◌&&◌, ◌||◌, not, ◌==◌, nat_lt, List, []}
use Rattle.cw_log_laws.proofs.Terms.{◌∷◌, ◌++◌, Option, slice_index, take, refl, sym, ap, ◌∙◌, arith, if◌then◌else◌}
use Rattle.cw_log_laws.proofs.Terms.{list_all, both, Code, Mode, TokKind, Answer, Token, Begin, Finish, Note, Where}
use Rattle.cw_log_laws.proofs.Terms.{Cut, ScanStep, note_answers, bar, code_text_apart, comment_text_apart}
use Rattle.cw_log_laws.proofs.Terms.{behind_head_apart, part_text_apart, in_text_apart, found_apart, AreBare}
use Rattle.cw_log_laws.proofs.Terms.{bare-all-cut, still_fresh, answers, tokens_of, is_section_answer, until_section}
use Rattle.cw_log_laws.proofs.Terms.{is_identifier}
use Rattle.cw_rules.specs.{declared.bodies.NoteAt.NoteAt, declared.codes.Effect.Effect, declared.parts.Part.Part}
use Rattle.cw_rules.specs.{declared.parts.Opened.Opened, declared.parts.Start.Start, declared.signs.Sign.Sign}
use Rattle.cw_rules.specs.{Codes.code_at, Codes.begins_section, Constants.constant, Prefixes.prefix_size}
use Rattle.cw_rules.specs.{Signs.all_signs, Signs.longest, Bodies.one_note, Bodies.note_unless, Bodies.noted}
use Rattle.cw_rules.specs.Bytes.{slash, star, at_sign, hash, less, begins, begins_by, is_letter, is_mark, is_digit}
use Rattle.cw_rules.specs.Bytes.{is_in, run}
use Rattle.cw_rules.specs.Tokens.{in_hash_line, behind_include, takes_hash_line, is_space, is_deep, ends_at_bar}
use Rattle.cw_rules.specs.Tokens.{closes_on_line, moved, passed, comment_end, section, section_code, string, line_end}
use Rattle.cw_rules.specs.Tokens.{start_of, effect_in, code_by, in_code, code_token, limbo_by, limbo_text, tex_by}
use Rattle.cw_rules.specs.Tokens.{tex_text, name_follows, macro_name, parameter_follows, parameter, format_name}
use Rattle.cw_rules.specs.Tokens.{include_name, piece_start, behind_white}
use Rattle.cw_base.specs.{Bytes.newline, declared.notes.NoteKind.NoteKind}
use Rattle.cw_rules.proofs.Choices.{if-both}
use Rattle.cw_rules.specs.declared.classes.Class.TheVariants as classes
use Rattle.cw_rules.specs.declared.parts.Part.TheVariants as parts
use Rattle.cw_rules.specs.declared.parts.Start.TheVariants as start
use Rattle.cw_rules.specs.declared.tokens.TokKind.TheVariants as kinds
use Rattle.std.specs.Option.{option_map_or}

-- the text of a token, where it is an identifier
abbrev pub IsSpelt : TokKind → List ℕ → Type 0
IsSpelt kinds.Identifier text = is_identifier text ≡ true
IsSpelt kind text = Unit {0}

abbrev pub AreSpelt : List Answer → Type 0
AreSpelt [] = Unit {0}
AreSpelt (Token t ∷ answers) = IsSpelt t.kind t.text × AreSpelt answers
AreSpelt (Begin t ∷ answers) = AreSpelt answers
AreSpelt (Finish t ∷ answers) = AreSpelt answers
AreSpelt (Note kind place ∷ answers) = AreSpelt answers

-- ## Words

run-on : (b : ℕ) (bs : List ℕ) → is_in classes.Word b ≡ true → run classes.Word (b ∷ bs) ≡ suc (run classes.Word bs)
run-on b bs h = grind arith

run-none : (b : ℕ) (bs : List ℕ) → is_in classes.Word b ≡ false → run classes.Word (b ∷ bs) ≡ 0
run-none b bs h = ap (λ t. if t then 1 + run classes.Word bs else 0) h

run-words : (bs : List ℕ) → list_all (is_in classes.Word) (take (run classes.Word bs) bs) ≡ true
run-words [] = refl
run-words (b ∷ bs) = grind (arith, run-words bs, run-on, both, run-none)

letter-word : (b : ℕ) → is_letter b ≡ true → is_in classes.Word b ≡ true
letter-word b h = ap (λ t. t || is_digit b) h

word-spelt : (b : ℕ) (bs : List ℕ) → is_letter b ≡ true
    → is_identifier (take (run classes.Word (b ∷ bs)) (b ∷ bs)) ≡ true
word-spelt b bs h = grind (arith, run-on, letter-word, both, run-words)

-- ## Lists of answers

append-spelt : (xs ys : List Answer) → AreSpelt xs → AreSpelt ys → AreSpelt (xs ++ ys)
append-spelt [] ys h g = g
append-spelt (Token t ∷ xs) ys h g = (h.0, append-spelt xs ys h.1 g)
append-spelt (Begin t ∷ xs) ys h g = append-spelt xs ys h g
append-spelt (Finish t ∷ xs) ys h g = append-spelt xs ys h g
append-spelt (Note kind place ∷ xs) ys h g = append-spelt xs ys h g

bare-spelt : (place : ℕ) (xs : List Answer) → AreBare place xs → AreSpelt xs
bare-spelt place [] h = tt
bare-spelt place (Finish t ∷ xs) h = bare-spelt place xs h.3
bare-spelt place (Note kind about ∷ xs) h = bare-spelt place xs h
bare-spelt _ _ h = absurd h

noted-spelt : (ns : List NoteAt) → AreSpelt (note_answers ns)
noted-spelt [] = tt
noted-spelt (n ∷ ns) = noted-spelt ns

-- a kind of which nothing is said
abbrev IsOther : TokKind → Type 0
IsOther kind = (text : List ℕ) → IsSpelt kind text

code-token-other : (code : Code) (place : ℕ) (bytes : List ℕ) → IsOther (code_token code place bytes).kind
code-token-other code place bytes = grind (arith, if-both)

section-other : (bytes : List ℕ) → IsOther (section_code bytes).kind
section-other bytes = grind (arith, if-both)

-- ## What begins at a place

abbrev Spelt : ScanStep → Type 0
Spelt f = AreSpelt f.answers

abbrev missing : Opened → ℕ → List NoteAt
missing c place = one_note (note_unless (c.braces == 0) NoteKind.MissingBrace place)

line-end-spelt : (part : Part) (comments : List Opened) (last place : ℕ) → Spelt (line_end part comments last place)
line-end-spelt part [] last place = grind (arith, if-both)
line-end-spelt part (c ∷ comments) last place =
    grind (arith, line-end-spelt (passed part) comments last place, if-both, append-spelt, noted-spelt)

-- ## C text

code-by-spelt : (effect : Effect) (code : Code) (w : Where) (place : ℕ) (bytes : List ℕ)
    → Spelt (code_by effect code w place bytes)
code-by-spelt effect code w place bytes = grind (arith, code-token-other, noted-spelt)

sign-spelt : (o : Option Sign) (w : Where) (place : ℕ) (bytes : List ℕ)
    → Spelt (in_code (option_map_or start.Sign o start.OtherByte) w place bytes)
sign-spelt o w place bytes = grind arith

in-code-spelt : (bar_ends : Bool) (w : Where) (place byte : ℕ) (bytes : List ℕ)
    → Spelt (in_code (start_of bar_ends byte bytes) w place (byte ∷ bytes))
in-code-spelt bar_ends w place byte bytes =
    let all = byte ∷ bytes in
    let P : Start → Type 0 = λ s. Spelt (in_code s w place all) in
    let string-at : ℕ → Cut = λ mark. string kinds.Quoted (prefix_size all + 1) mark place all in
    if-both P (nat_lt 0 (prefix_size all)) (start.Quoted (slice_index all (prefix_size all))) _
    (λ h. (tt, noted-spelt (string-at (slice_index all (prefix_size all))).notes)) (λ h. if-both P (is_letter byte)
    start.Identifier _ (λ h. (word-spelt byte bytes h, tt)) (λ h. if-both P (nat_lt 0 (constant all)) start.Constant _
    (λ h. (tt, tt)) (λ h. if-both P (is_mark byte) (start.Quoted byte) _ (λ h. (tt, noted-spelt (string-at byte).notes))
    (λ h. if-both P (byte == slash && begins star bytes) start.LongComment _ (λ h. tt)
    (λ h. if-both P (byte == slash && begins slash bytes) start.ShortComment _ (λ h. tt) (λ h. if-both P
    (byte == at_sign) (start.Code (code_at bytes)) _ (λ h. code-by-spelt (effect_in w.part w.comments (code_at bytes))
    (code_at bytes) w place all) (λ h. if-both P (byte == bar && (bar_ends && not (begins bar bytes))) start.EndOfInner
    (option_map_or start.Sign (longest all_signs all) start.OtherByte) (λ h. tt)
    (λ h. sign-spelt (longest all_signs all) w place all))))))))

code-text-spelt : (w : Where) (fresh : Bool) (last place byte : ℕ) (bytes : List ℕ)
    → Spelt (code_text_apart w fresh last place byte bytes)
code-text-spelt w fresh last place byte bytes = if-both Spelt (byte == newline) _ _
    (λ h. line-end-spelt w.part w.comments last place) (λ h. if-both Spelt (is_space w.part byte bytes) _ _ (λ h. tt)
    (λ h. if-both Spelt (byte == hash && (takes_hash_line w.part w.comments && fresh)) _ _ (λ h. (tt, tt)) (λ h. if-both
    Spelt (byte == less && (behind_include w.part && closes_on_line bytes)) _ _ (λ h. (
      tt,
      noted-spelt (include_name
          place (byte ∷ bytes)).notes,
    )) (λ h. in-code-spelt (ends_at_bar w.part w.comments) w place byte bytes))))

comment-text-spelt : (part : Part) (c : Opened) (comments : List Opened) (last place byte : ℕ) (bytes : List ℕ)
    → Spelt (comment_text_apart part c comments last place byte bytes)
comment-text-spelt part c comments last place byte bytes = if-both Spelt (c.long && (byte == star && begins slash
    bytes)) _ _ (λ h. noted-spelt (missing c place)) (λ h. if-both Spelt (not c.long && byte == newline) _ _ (λ h.
    append-spelt (comment_end (in_hash_line part) c place 0 []) (line_end part comments last place).answers (noted-spelt
    (missing c place)) (line-end-spelt part comments last place)) (λ h. if-both Spelt (byte == bar && not (is_deep part
    (c ∷ comments))) _ _ (λ h. tt) (λ h. (tt, noted-spelt (noted (piece_start part comments c place) (byte ∷ bytes))))))

-- ## Limbo, TeX text and heads

limbo-by-spelt : (effect : Effect) (code : Code) (w : Where) (place : ℕ) (bytes : List ℕ)
    → Spelt (limbo_by effect code w place bytes)
limbo-by-spelt effect code w place bytes = grind (arith, code-token-other, noted-spelt)

limbo-text-spelt : (w : Where) (place byte : ℕ) (bytes : List ℕ) → Spelt (limbo_text w place byte bytes)
limbo-text-spelt w place byte bytes = grind (arith, if-both, limbo-by-spelt)

tex-by-spelt : (effect : Effect) (code : Code) (w : Where) (place : ℕ) (bytes : List ℕ)
    → Spelt (tex_by effect code w place bytes)
tex-by-spelt effect code w place bytes = grind (arith, code-token-other, noted-spelt)

tex-text-spelt : (w : Where) (place byte : ℕ) (bytes : List ℕ) → Spelt (tex_text w place byte bytes)
tex-text-spelt w place byte bytes = grind (arith, if-both, tex-by-spelt)

-- a name that follows at a byte which isn't white begins there
not-white : (byte : ℕ) (bytes : List ℕ) → is_in classes.White byte ≡ false → behind_white (byte ∷ bytes) ≡ byte ∷ bytes
not-white byte bytes h = grind arith

name-here : (byte : ℕ) (bytes : List ℕ) → name_follows (byte ∷ bytes) ≡ true → is_in classes.White byte ≡ false
    → is_letter byte ≡ true
name-here byte bytes follows white = ap (begins_by is_letter) (sym (not-white byte bytes white)) ∙ follows

macro-name-spelt : (code : ℕ) (w : Where) (place byte : ℕ) (bytes : List ℕ) → name_follows (byte ∷ bytes) ≡ true
    → Spelt (macro_name code w place byte bytes)
macro-name-spelt code w place byte bytes follows = grind (arith, if-both, word-spelt, name-here)

format-name-spelt : (code : ℕ) (second limbo : Bool) (w : Where) (place byte : ℕ) (bytes : List ℕ)
    → name_follows (byte ∷ bytes) ≡ true → Spelt (format_name code second limbo w place byte bytes)
format-name-spelt code second limbo w place byte bytes follows = grind (arith, if-both, word-spelt, name-here)

parameter-spelt : (w : Where) (place byte : ℕ) (bytes : List ℕ) → Spelt (parameter w place byte bytes)
parameter-spelt w place byte bytes = grind (arith, if-both, word-spelt)

behind-head-spelt : (limbo : Bool) (w : Where) (fresh : Bool) (last place byte : ℕ) (bytes : List ℕ)
    → Spelt (behind_head_apart limbo w fresh last place byte bytes)
behind-head-spelt true w fresh last place byte bytes = limbo-text-spelt (moved w parts.Limbo) place byte bytes
behind-head-spelt false w fresh last place byte bytes =
    code-text-spelt (moved w parts.Definition) fresh last place byte bytes

-- ## Any text

part-text-spelt : (part : Part) (w : Where) (fresh : Bool) (last place byte : ℕ) (bytes : List ℕ)
    → Spelt (part_text_apart part w fresh last place byte bytes)
part-text-spelt parts.Limbo w fresh last place byte bytes = limbo-text-spelt w place byte bytes
part-text-spelt parts.Tex w fresh last place byte bytes = tex-text-spelt w place byte bytes
part-text-spelt parts.Head w fresh last place byte bytes =
    if-both Spelt (is_in classes.Blank byte) _ _ (λ h. tt) (λ h. (tt, tt))
part-text-spelt (parts.MacroName code) w fresh last place byte bytes = if-both Spelt (name_follows (byte ∷ bytes)) _ _
    (λ h. macro-name-spelt code w place byte bytes h) (λ h. behind-head-spelt false w fresh last place byte bytes)
part-text-spelt (parts.MacroParen code) w fresh last place byte bytes = (tt, tt)
part-text-spelt (parts.Parameters code) w fresh last place byte bytes = if-both Spelt (parameter_follows (byte ∷ bytes))
    _ _ (λ h. parameter-spelt w place byte bytes) (λ h. behind-head-spelt false w fresh last place byte bytes)
part-text-spelt (parts.FormatName code second limbo) w fresh last place byte bytes = if-both Spelt
    (name_follows (byte ∷ bytes)) _ _ (λ h. format-name-spelt code second limbo w place byte bytes h)
    (λ h. behind-head-spelt limbo w fresh last place byte bytes)
part-text-spelt _ w fresh last place byte bytes = code-text-spelt w fresh last place byte bytes

in-text-spelt : (part : Part) (comments : List Opened) (fresh : Bool) (last place byte : ℕ) (bytes : List ℕ)
    → Spelt (in_text_apart part comments fresh last place byte bytes)
in-text-spelt part comments fresh last place byte bytes =
    grind (arith, part-text-spelt, if-both, code-text-spelt, comment-text-spelt)

section-spelt : (w : Where) (place : ℕ) (bytes : List ℕ) → Spelt (section w place bytes)
section-spelt w place bytes = grind (arith, append-spelt, bare-spelt, bare-all-cut, section-other, noted-spelt)

found-spelt : (w : Where) (fresh : Bool) (last place byte : ℕ) (bytes : List ℕ)
    → Spelt (found_apart w fresh last place byte bytes)
found-spelt w fresh last place byte bytes = if-both Spelt (byte == at_sign && begins_section bytes) _ _
    (λ h. section-spelt w place bytes) (λ h. in-text-spelt w.part w.comments fresh last place byte bytes)

all-spelt : (bytes : List ℕ) (w : Where) (fresh : Bool) (last place taken : ℕ)
    → AreSpelt (answers bytes w fresh last place taken)
all-spelt [] w fresh last place taken = grind (arith, bare-spelt, bare-all-cut)
all-spelt (byte ∷ bytes) w fresh last place zero =
    let f = found_apart w fresh last place byte bytes in
    append-spelt f.answers (answers bytes f.next (still_fresh fresh byte) byte (place + 1) f.more) (found-spelt w fresh
    last place byte bytes) (all-spelt bytes f.next (still_fresh fresh byte) byte (place + 1) f.more)
all-spelt (byte ∷ bytes) w fresh last place (suc taken) =
    all-spelt bytes w (still_fresh fresh byte) byte (place + 1) taken

-- the answers over a part of a text
pub tokens-spelt : (text : List ℕ) (start end : ℕ) (mode : Mode) → AreSpelt (tokens_of text start end mode)
tokens-spelt text start end mode = grind (arith, all-spelt)

pub until-spelt : (xs : List Answer) → AreSpelt xs → AreSpelt (until_section xs)
until-spelt [] h = tt
until-spelt (x ∷ xs) h = by (is_section_answer x) x h (λ g. until-spelt xs g)
  where
    by : (b : Bool) (x : Answer) → AreSpelt (x ∷ xs) → (AreSpelt xs → AreSpelt (until_section xs))
        → AreSpelt (if b then [] else x ∷ until_section xs)
    by true x h rest = tt
    by false (Token t) h rest = (h.0, rest h.1)
    by false (Begin t) h rest = rest h
    by false (Finish t) h rest = rest h
    by false (Note kind place) h rest = rest h
