-- Tokens that are scanned again, one behind another, with white space between them.
use Rattle.cw_rules.specs.declared.tokens.Directive.TheVariants.{No}
use Rattle.cw_plain_laws.proofs.Terms.{◌≡◌, ℕ, ◌||◌, ◌&&◌, not, Bool, true, false, List, [], ◌∷◌, ◌++◌, codes, length}
use Rattle.cw_plain_laws.proofs.Terms.{TokKind, Answer, Token, Where, is_single, stops, takes_next, apostrophe, at_sign}
use Rattle.cw_plain_laws.proofs.Terms.{is_in, is_letter, is_mark, run, constant, spelling, clash, is_wordy, is_hash}
use Rattle.cw_rules.specs.declared.classes.Class.TheVariants as classes
use Rattle.cw_rules.specs.declared.parts.Behind.TheVariants as behinds
use Rattle.cw_rules.specs.declared.parts.Part.TheVariants as parts
use Rattle.cw_rules.specs.declared.tokens.TokKind.TheVariants as kinds
use Rattle.cw_rules.specs.declared.bodies.Body.TheVariants as bodies
use Rattle.cw_rules.specs.declared.codes.Code.TheVariants as codes

abbrev pub last_of : ℕ → List ℕ → ℕ
last_of byte [] = byte
last_of byte (next ∷ bytes) = last_of next bytes

-- A string of this mark is closed by its last byte and has no note: `last` is the byte before these, and `along` says
-- that it takes the next one along.
abbrev pub has_no_note : Bool → ℕ → List ℕ → Type 0
has_no_note true byte bytes = Unit {0}
has_no_note false byte bytes = is_single byte bytes ≡ false

abbrev pub IsClosed : ℕ → ℕ → Bool → List ℕ → Type 0
IsClosed mark last along [] = ⊥
IsClosed mark last along (byte ∷ []) = (along ≡ false) × (byte ≡ mark)
IsClosed mark last along (byte ∷ next ∷ bytes) = ((along || not (stops (bodies.Quoted mark) last byte (next ∷ bytes)))
    ≡ true) × has_no_note along byte (next ∷ bytes) × IsClosed mark byte
    (not along && takes_next (bodies.Quoted mark) byte (next ∷ bytes)) (next ∷ bytes)

-- what may stand before the mark with which a string begins
pub data Prefix : Type 0 where
  Bare : Prefix
  Wide : Prefix
  Utf16 : Prefix
  Utf32 : Prefix
  Utf8 : Prefix

abbrev pub prefix_bytes : Prefix → List ℕ
prefix_bytes Bare = []
prefix_bytes Wide = codes "L"
prefix_bytes Utf16 = codes "u"
prefix_bytes Utf32 = codes "U"
prefix_bytes Utf8 = codes "u8"

-- a string, with its prefix and its marks
pub record IsString (bytes : List ℕ) : Type 0 where
  pub prefix : Prefix
  pub mark : ℕ
  pub body : List ℕ
  pub mark_is : is_mark mark ≡ true
  pub closed : IsClosed mark 0 false body
  pub same : bytes ≡ prefix_bytes prefix ++ mark ∷ body

-- the string of `@'`, without the `@`
abbrev pub IsInQuotes : List ℕ → Type 0
IsInQuotes [] = ⊥
IsInQuotes (byte ∷ bytes) = (byte ≡ apostrophe) × IsClosed apostrophe 0 false bytes

-- These bytes, of which `byte` is the first, are one token of this kind by themselves.
abbrev pub IsAlone : TokKind → ℕ → List ℕ → Type 0
IsAlone kinds.Identifier byte bytes = (is_letter byte ≡ true)
    × (run classes.Word (byte ∷ bytes) ≡ length (byte ∷ bytes))
IsAlone kinds.Constant byte bytes = (is_letter byte ≡ false) × (constant (byte ∷ bytes) ≡ length (byte ∷ bytes))
    × (is_wordy (last_of byte bytes) ≡ true)
IsAlone kinds.Quoted byte bytes = IsString (byte ∷ bytes)
IsAlone (kinds.Sign sign) byte bytes = (byte ∷ bytes ≡ spelling sign) × (is_hash sign ≡ false)
IsAlone (kinds.Code codes.Quote) byte bytes = (byte ≡ at_sign) × IsInQuotes bytes
IsAlone _ byte bytes = ⊥

abbrev pub IsAloneText : TokKind → List ℕ → Type 0
IsAloneText kind [] = ⊥
IsAloneText kind (byte ∷ bytes) = IsAlone kind byte bytes

-- what follows doesn't touch the token before it
abbrev pub IsApart : ℕ → List ℕ → Type 0
IsApart last [] = Unit {0}
IsApart last (byte ∷ bytes) = clash last byte ≡ false

-- A token, and the white space behind it.
pub record Spaced : Type 0 where
  pub kind : TokKind
  pub first : ℕ
  pub rest : List ℕ
  pub space : List ℕ

abbrev pub AreWhite : List ℕ → Type 0
AreWhite [] = Unit {0}
AreWhite (byte ∷ bytes) = (is_in classes.White byte ≡ true) × AreWhite bytes

abbrev pub spaced_text : List Spaced → List ℕ
spaced_text [] = []
spaced_text (t ∷ ts) = (t.first ∷ t.rest) ++ (t.space ++ spaced_text ts)

abbrev pub AreSpaced : List Spaced → Type 0
AreSpaced [] = Unit {0}
AreSpaced (t ∷ ts) = IsAlone t.kind t.first t.rest × AreWhite t.space
    × IsApart (last_of t.first t.rest) (t.space ++ spaced_text ts) × AreSpaced ts

-- a token, wherever it stands
abbrev pub alone_token : TokKind → List ℕ → Answer
alone_token kind text =
    Token (record {
      kind = kind;
      text = text;
      span = record { start = 0; «end» = 0 };
      hash_line = false;
      directive = No;
    })

abbrev pub words : List Spaced → List Answer
words [] = []
words (t ∷ ts) = alone_token t.kind (t.first ∷ t.rest) ∷ words ts

-- in a C part, at its beginning or behind a token
abbrev pub in_part : Bool → Where
in_part true = record { part = parts.Begin; comments = [] }
in_part false = record { part = parts.Plain false behinds.Other; comments = [] }
