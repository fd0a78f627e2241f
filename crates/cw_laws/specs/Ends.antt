-- Where the texts of codes, comments and inner texts end.
use Rattle.std.specs.Prelude.{◌≡◌, ℕ, ◌+◌, ◌-◌, ◌<◌, nat_lt, Bool, true, false, not, ◌&&◌, ◌||◌, List, [], ◌∷◌, ◌⊎◌}
use Rattle.std.specs.Prelude.{drop, length, take, if◌then◌else◌}
use Rattle.std.specs.List.{count_by}
use Rattle.cw_base.specs.declared.notes.NoteKind.{NoteKind}
use Rattle.cw_base.specs.declared.notes.NoteKind.TheVariants.{BarMissing, CodeInControlText, CodeInName}
use Rattle.cw_base.specs.declared.notes.NoteKind.TheVariants.{CommentUnended, ControlTextUnended, NameUnended}
use Rattle.cw_rules.specs.declared.codes.Code.{Code}
use Rattle.cw_rules.specs.declared.codes.Code.TheVariants as at
use Rattle.cw_rules.specs.declared.tokens.Mode.{Mode}
use Rattle.cw_rules.specs.declared.tokens.Mode.TheVariants as modes
use Rattle.cw_rules.specs.declared.tokens.TokKind.{TokKind}
use Rattle.cw_rules.specs.declared.tokens.TokKind.TheVariants as kinds
use Rattle.cw_rules.specs.Answers.{Answer, Token, Begin, Finish, Note}
use Rattle.cw_base.specs.Text.{bar}
use Rattle.cw_base.specs.Bytes.{newline, backslash}
use Rattle.cw_rules.specs.declared.classes.Class.TheVariants.{LimboText, TexText}
use Rattle.cw_rules.specs.Bytes.{star, slash, greater, at_sign, begins, run}
use Rattle.cw_rules.specs.Codes.{begins_section, code_at, has_control_text}
use Rattle.cw_lex.specs.Lexing.{tokens_of}
use Rattle.cw_lex.specs.Nested.{is_section_kind}
use Rattle.cw_lex.specs.Openings.{is_limbo_mode}
use Rattle.cw_laws.specs.Strings.{IsString}

-- the bytes begin with these two
abbrev pub begins_two : ℕ → ℕ → List ℕ → Bool
begins_two first second bytes = begins first bytes && begins second (drop 1 bytes)

abbrev pub begins_section_code : List ℕ → Bool
begins_section_code bytes = begins at_sign bytes && begins_section (drop 1 bytes)

-- How many bytes come before the first end of a text. Of two bytes that belong together the second begins no end.
abbrev pub before_end : (ends pairs : List ℕ → Bool) → List ℕ → ℕ
before_end ends pairs [] = 0
before_end ends pairs (byte ∷ []) = if ends (byte ∷ []) then 0 else 1
before_end ends pairs (byte ∷ next ∷ bytes) =
    if ends (byte ∷ next ∷ bytes) then 0
    else if pairs (byte ∷ next ∷ bytes) then 2 + before_end ends pairs bytes
    else 1 + before_end ends pairs (next ∷ bytes)

-- This note stands among those directly behind an answer.
abbrev pub IsNoted : NoteKind → List Answer → Type 0
IsNoted wanted (Note kind place ∷ answers) = (kind ≡ wanted) ⊎ IsNoted wanted answers
IsNoted wanted answers = ⊥

-- ## The texts of codes

-- A control text ends before `@>` and before a line's end; `@@` belongs together.
abbrev pub ends_control : List ℕ → Bool
ends_control bytes = begins newline bytes || begins_two at_sign greater bytes

abbrev pub is_double_at : List ℕ → Bool
is_double_at bytes = begins_two at_sign at_sign bytes

abbrev pub control_size : List ℕ → ℕ
control_size bytes = before_end ends_control is_double_at bytes

-- A section name ends before `@>` and before a section code, perhaps on a later line; any other `@` belongs to the byte
-- behind it.
abbrev pub ends_name : List ℕ → Bool
ends_name bytes = begins_two at_sign greater bytes || begins_section_code bytes

-- an `@` that no other follows
abbrev pub is_single_at : List ℕ → Bool
is_single_at bytes = begins at_sign bytes && not (begins at_sign (drop 1 bytes))

-- how many bytes come before the first end or single `@`
abbrev pub before_single : (ends pairs : List ℕ → Bool) → List ℕ → ℕ
before_single ends pairs bytes = before_end (λ bytes. ends bytes || is_single_at bytes) pairs bytes

-- `@>` stands at the first end
abbrev pub is_closed : (ends pairs : List ℕ → Bool) → List ℕ → Bool
is_closed ends pairs bytes = begins_two at_sign greater (drop (before_end ends pairs bytes) bytes)

-- the bytes before the first end, and `@>` where it stands there
abbrev pub closed_size : (ends pairs : List ℕ → Bool) → List ℕ → ℕ
closed_size ends pairs bytes =
    if is_closed ends pairs bytes then before_end ends pairs bytes + 2 else before_end ends pairs bytes

-- A code has the bytes of its text up to the first end, and `@>` where it stands there. Else that is noted, and so is a
-- single `@` before the first end.
pub record HasText (ends pairs : List ℕ → Bool) (unended single : NoteKind) (bytes : List ℕ) (size : ℕ)
    (answers : List Answer) : Type 0 where
  pub whole : size ≡ 2 + closed_size ends pairs (drop 2 bytes)
  pub noted : is_closed ends pairs (drop 2 bytes) ≡ false → IsNoted unended answers
  pub singles : before_single ends pairs (drop 2 bytes) < before_end ends pairs (drop 2 bytes) → IsNoted single answers

abbrev pub HasControlText : List ℕ → ℕ → List Answer → Type 0
HasControlText bytes size answers =
    HasText ends_control is_double_at ControlTextUnended CodeInControlText bytes size answers

abbrev pub HasName : List ℕ → ℕ → List Answer → Type 0
HasName bytes size answers = HasText ends_name (begins at_sign) NameUnended CodeInName bytes size answers

-- The bytes begin with this code: an `@`, and behind it the byte that tells the code.
abbrev pub BeginsCode : Code → List ℕ → Type 0
BeginsCode code bytes = (begins at_sign bytes ≡ true) × (code_at (drop 1 bytes) ≡ code)

-- A code has the bytes of its control text, if that belongs to it. Else it is alone: the `@` and the byte behind it,
-- where one is there.
pub record HasOwnText (has_text : Bool) (bytes : List ℕ) (size : ℕ) (answers : List Answer) : Type 0 where
  pub text : has_text ≡ true → HasControlText bytes size answers
  pub alone : has_text ≡ false → size ≡ length (take 2 bytes)

-- A code goes up to the end of its name or control text, and `@'` up to that of the string that begins with its `'`.
-- Of section codes nothing is said here.
abbrev pub CodeGoesToEnd : Code → List ℕ → ℕ → List Answer → Type 0
CodeGoesToEnd at.Section bytes size answers = Unit {0}
CodeGoesToEnd at.StarredSection bytes size answers = Unit {0}
CodeGoesToEnd at.SectionName bytes size answers = BeginsCode at.SectionName bytes × HasName bytes size answers
CodeGoesToEnd at.FileName bytes size answers = BeginsCode at.FileName bytes × HasName bytes size answers
CodeGoesToEnd at.Quote bytes size answers = BeginsCode at.Quote bytes × IsString (drop 1 bytes) (size - 1)
CodeGoesToEnd code bytes size answers =
    BeginsCode code bytes × HasOwnText (has_control_text code) bytes size answers

-- A code that may not stand in its place is dropped with its control text, but in limbo without.
abbrev pub drops_text : Mode → List ℕ → Bool
drops_text mode bytes = not (is_limbo_mode mode) && has_control_text (code_at (drop 1 bytes))

abbrev pub DroppedGoesToEnd : Mode → List ℕ → ℕ → List Answer → Type 0
DroppedGoesToEnd mode bytes size answers =
    (begins at_sign bytes ≡ true) × HasOwnText (drops_text mode bytes) bytes size answers

-- ## How deep inner texts stand

abbrev pub is_inner_text : TokKind → Bool
is_inner_text kinds.InnerText = true
is_inner_text kind = false

-- How many inner texts are around a place before which these are open: all of inner C text is one more.
abbrev pub inner_depth : Mode → List TokKind → ℕ
inner_depth modes.Inner opened = 1 + count_by is_inner_text opened
inner_depth mode opened = count_by is_inner_text opened

-- A bar begins an inner text where fewer than twenty are around it.
abbrev pub bars_begin : Mode → List TokKind → Bool
bars_begin mode opened = nat_lt (inner_depth mode opened) 20

-- ## Comments

-- Text of a comment ends where the comment does, before a section code, and where inner texts may begin before a bar.
abbrev pub ends_piece : (long bars : Bool) → List ℕ → Bool
ends_piece long bars bytes =
    (if long then begins_two star slash bytes else begins newline bytes)
    || (begins_section_code bytes || (begins bar bytes && bars))

-- A backslash belongs to the byte behind it, if that is no `@`, nor in a short comment a line's end; so does `@@`.
abbrev pub is_pair : (long : Bool) → List ℕ → Bool
is_pair long bytes =
    (begins backslash bytes
    && not (begins at_sign (drop 1 bytes) || (not long && begins newline (drop 1 bytes))))
    || begins_two at_sign at_sign bytes

abbrev pub piece_size : (long bars : Bool) → List ℕ → ℕ
piece_size long bars bytes = before_end (ends_piece long bars) (is_pair long) bytes

-- A piece of text has all bytes up to the first end, where these are open, the innermost first: in a comment up to its
-- end, in limbo to an `@`, and in TeX text to an `@` or a bar. None stands in inner texts.
abbrev pub IsPieceIn : Mode → List TokKind → List ℕ → ℕ → Type 0
IsPieceIn mode (kinds.LongComment ∷ opened) bytes size =
    size ≡ piece_size true (bars_begin mode (kinds.LongComment ∷ opened)) bytes
IsPieceIn mode (kinds.ShortComment ∷ opened) bytes size =
    size ≡ piece_size false (bars_begin mode (kinds.ShortComment ∷ opened)) bytes
IsPieceIn mode [] bytes size = size ≡ run (if is_limbo_mode mode then LimboText else TexText) bytes
IsPieceIn mode (kind ∷ opened) bytes size = ⊥

-- ## Where comments and inner texts begin and end

-- A comment begins with its two bytes, and an inner text with a bar. Nothing else begins.
abbrev pub BeginsAt : Mode → List TokKind → TokKind → List ℕ → ℕ → Type 0
BeginsAt mode opened kinds.LongComment bytes size = (begins_two slash star bytes ≡ true) × (size ≡ 2)
BeginsAt mode opened kinds.ShortComment bytes size = (begins_two slash slash bytes ≡ true) × (size ≡ 2)
BeginsAt mode opened kinds.InnerText bytes size =
    (begins bar bytes ≡ true) × (size ≡ 1) × (bars_begin mode opened ≡ true)
BeginsAt mode opened kind bytes size = ⊥

-- A section code or the end of the text cuts off all that is open.
abbrev pub CutsAll : List ℕ → Type 0
CutsAll bytes = (bytes ≡ []) ⊎ (begins_section_code bytes ≡ true)

abbrev pub is_in_short : List TokKind → Bool
is_in_short (kinds.ShortComment ∷ around) = true
is_in_short around = false

-- What is cut off ends without bytes of its own, and that is noted.
abbrev pub IsCutOff : NoteKind → ℕ → List Answer → Type 0
IsCutOff note size answers = (size ≡ 0) × IsNoted note answers

-- A long comment ends with `*/`, a short one before a line's end, and an inner text with a bar, if it isn't cut off; a
-- line's end too cuts off an inner text of a short comment. `around` is open around what ends.
abbrev pub EndsAt : TokKind → (around : List TokKind) → List ℕ → ℕ → List Answer → Type 0
EndsAt kinds.LongComment around bytes size answers =
    ((begins_two star slash bytes ≡ true) × (size ≡ 2)) ⊎ (CutsAll bytes × IsCutOff CommentUnended size answers)
EndsAt kinds.ShortComment around bytes size answers =
    ((begins newline bytes ≡ true) × (size ≡ 0)) ⊎ (CutsAll bytes × IsCutOff CommentUnended size answers)
EndsAt kinds.InnerText around bytes size answers =
    ((begins bar bytes ≡ true) × (size ≡ 1))
    ⊎ ((CutsAll bytes ⊎ ((begins newline bytes && is_in_short around) ≡ true)) × IsCutOff BarMissing size answers)
EndsAt kind around bytes size answers = ⊥

-- ## Among answers

-- A token of this kind goes up to its end, in this mode, before which these comments and inner texts are open.
abbrev pub GoesToEnd : Mode → List TokKind → TokKind → List ℕ → ℕ → List Answer → Type 0
GoesToEnd mode opened kinds.Text bytes size answers = IsPieceIn mode opened bytes size
GoesToEnd mode opened (kinds.Code code) bytes size answers = CodeGoesToEnd code bytes size answers
GoesToEnd mode opened kinds.Dropped bytes size answers = DroppedGoesToEnd mode bytes size answers
GoesToEnd mode opened kind bytes size answers = Unit {0}

-- Behind a section code TeX text goes on.
abbrev pub mode_behind : TokKind → Mode → Mode
mode_behind kind mode = if is_section_kind kind then modes.TexText else mode

-- So texts go to their ends among answers, in this mode, before which these comments and inner texts are open, the
-- innermost first. What ends is the innermost; at a section code, and at the end, none is open.
abbrev pub AllEnd : List ℕ → Mode → List TokKind → List Answer → Type 0
AllEnd text mode opened [] = opened ≡ []
AllEnd text mode opened (Token t ∷ answers) =
    GoesToEnd mode opened t.kind (drop t.span.start text) (t.span.end - t.span.start) answers
    × (is_section_kind t.kind ≡ true → opened ≡ [])
    × AllEnd text (mode_behind t.kind mode) opened answers
AllEnd text mode opened (Begin t ∷ answers) =
    BeginsAt mode opened t.kind (drop t.span.start text) (t.span.end - t.span.start)
    × AllEnd text mode (t.kind ∷ opened) answers
AllEnd text mode opened (Finish t ∷ answers) =
    (opened ≡ t.kind ∷ drop 1 opened)
    × EndsAt t.kind (drop 1 opened) (drop t.span.start text) (t.span.end - t.span.start) answers
    × AllEnd text mode (drop 1 opened) answers
AllEnd text mode opened (Note kind place ∷ answers) = AllEnd text mode opened answers

-- So it is with all bytes that are scanned.
abbrev pub TextsGoToTheirEnds : Type 0
TextsGoToTheirEnds =
    (text : List ℕ) (start end : ℕ) (mode : Mode) → AllEnd (take end text) mode [] (tokens_of text start end mode)
