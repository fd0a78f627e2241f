-- Each token is the longest that begins at its place, and a sign and an other byte stand where nothing else begins.
use Rattle.std.specs.Prelude.{◌≡◌, ℕ, ◌+◌, ◌-◌, ◌<◌, ◌≤◌, Bool, true, false, ◌&&◌, ◌||◌, ◌==◌, List, [], ◌∷◌, drop}
use Rattle.std.specs.Prelude.{take, length}
use Rattle.cw_base.specs.Bytes.{newline, backslash}
use Rattle.cw_rules.specs.declared.classes.Class.TheVariants.{Word, IncludeName}
use Rattle.cw_rules.specs.declared.codes.Code.{Code}
use Rattle.cw_rules.specs.declared.signs.Sign.{Sign}
use Rattle.cw_rules.specs.declared.signs.Sign.TheVariants as signs
use Rattle.cw_rules.specs.declared.tokens.Mode.{Mode}
use Rattle.cw_rules.specs.declared.tokens.Mode.TheVariants as modes
use Rattle.cw_rules.specs.declared.tokens.TokKind.{TokKind}
use Rattle.cw_rules.specs.declared.tokens.TokKind.TheVariants as kinds
use Rattle.cw_rules.specs.Answers.{Answer, Token, Begin, Finish, Note}
use Rattle.cw_rules.specs.Bytes.{run, begins, begins_by, begins_with, is_letter, is_mark, at_sign, hash, less, slash}
use Rattle.cw_rules.specs.Bytes.{star}
use Rattle.cw_rules.specs.Codes.{code_at, is_section}
use Rattle.cw_rules.specs.Constants.{constant}
use Rattle.cw_rules.specs.Prefixes.{prefix_size}
use Rattle.cw_rules.specs.Signs.{spelling, all_signs}
use Rattle.cw_rules.specs.Tokens.{closes_on_line, head_sign_size, is_include, section_code}
use Rattle.cw_lex.specs.Lexing.{tokens_of, fresh_after, last_after}
use Rattle.cw_lex.specs.Nested.{is_section_kind}
use Rattle.cw_laws.specs.Strings.{IsString}
use Rattle.cw_laws.specs.WhiteSpace.{begins_space_in, hash_line_by}

-- Of these signs none with which the bytes begin is longer than so many bytes.
abbrev pub NoneIsLonger : List Sign → List ℕ → ℕ → Type 0
NoneIsLonger [] bytes size = Unit {0}
NoneIsLonger (sign ∷ more) bytes size =
    (begins_with (spelling sign) bytes ≡ true → length (spelling sign) ≤ size) × NoneIsLonger more bytes size

abbrev pub begins_comment : List ℕ → Bool
begins_comment bytes = begins slash bytes && (begins star (drop 1 bytes) || begins slash (drop 1 bytes))

-- A sign is the longest of the table with which the bytes begin, where neither a constant nor a comment begins.
pub record IsSign (sign : Sign) (bytes : List ℕ) (size : ℕ) : Type 0 where
  pub spelt : begins_with (spelling sign) bytes ≡ true
  pub whole : size ≡ length (spelling sign)
  pub longest : NoneIsLonger all_signs bytes size
  pub no_constant : constant bytes ≡ 0
  pub no_comment : begins_comment bytes ≡ false

-- An other byte is one byte with which nothing else begins: no white space, identifier, constant, string, code or sign,
-- and so no comment.
pub record IsOtherByte (hash_line : Bool) (bytes : List ℕ) (size : ℕ) : Type 0 where
  pub whole : size ≡ 1
  pub no_space : begins_space_in hash_line bytes ≡ false
  pub no_letter : begins_by is_letter bytes ≡ false
  pub no_constant : constant bytes ≡ 0
  pub no_mark : begins_by is_mark bytes ≡ false
  pub no_code : begins at_sign bytes ≡ false
  pub no_sign : NoneIsLonger all_signs bytes 0

-- An include name goes from `<` to the first `>`, before which no line ends.
pub record IsIncludeName (bytes : List ℕ) (size : ℕ) : Type 0 where
  pub opened : begins less bytes ≡ true
  pub closed : closes_on_line (drop 1 bytes) ≡ true
  pub whole : size ≡ 1 + (run IncludeName (drop 1 bytes) + 1)

-- A section code is the one that the byte behind its `@` makes, with its depth and the blanks behind it on its line.
pub record IsSectionCode (code : Code) (bytes : List ℕ) (size : ℕ) : Type 0 where
  pub sign : begins at_sign bytes ≡ true
  pub made : code ≡ code_at (drop 1 bytes)
  pub whole : size ≡ (section_code bytes).size

-- A token of this size and kind stands behind bytes and before others, in a `#` line or not.
--   identifier: a letter, and all letters and digits that stand in a row
--   constant: all that a constant takes
--   string: up to its end
--   `#` of a `#` line: the first byte of its line but for blanks
--   end of a `#` line: a line's end with no backslash before it
--   sign of a head: the longest of `==`, `+=` and `=`
--   section code: with its depth and blanks
abbrev pub IsLongest : Bool → List ℕ → List ℕ → ℕ → TokKind → Type 0
IsLongest hash_line before bytes size kinds.Identifier = (begins_by is_letter bytes ≡ true) × (size ≡ run Word bytes)
IsLongest hash_line before bytes size kinds.Constant = size ≡ constant bytes
IsLongest hash_line before bytes size kinds.Quoted = IsString bytes size
IsLongest hash_line before bytes size kinds.IncludeName = IsIncludeName bytes size
IsLongest hash_line before bytes size (kinds.Sign sign) = IsSign sign bytes size
IsLongest hash_line before bytes size kinds.HashLine =
    (begins hash bytes ≡ true) × (size ≡ 1) × (fresh_after true before ≡ true)
IsLongest hash_line before bytes size kinds.HashLineEnd =
    (begins newline bytes ≡ true) × (size ≡ 1) × ((last_after 0 before == backslash) ≡ false)
IsLongest hash_line before bytes size kinds.OtherByte = IsOtherByte hash_line bytes size
IsLongest hash_line before bytes size kinds.HeadSign = (0 < size) × (size ≡ head_sign_size bytes)
IsLongest hash_line before bytes size (kinds.Code code) = is_section code ≡ true → IsSectionCode code bytes size
IsLongest hash_line before bytes size kind = Unit {0}

abbrev pub AreLongest : List ℕ → List Answer → Type 0
AreLongest text [] = Unit {0}
AreLongest text (Token t ∷ answers) =
    IsLongest t.hash_line (take t.span.start text) (drop t.span.start text) (t.span.end - t.span.start) t.kind
    × AreLongest text answers
AreLongest text (Begin t ∷ answers) = AreLongest text answers
AreLongest text (Finish t ∷ answers) = AreLongest text answers
AreLongest text (Note kind place ∷ answers) = AreLongest text answers

-- ## C parts

-- the word `include` in a `#` line
abbrev pub names_file : Bool → List ℕ → TokKind → Bool
names_file line bytes kinds.Identifier = line && is_include bytes
names_file line bytes kind = false

-- In a C part an identifier begins no string. Where nothing is open, a `#` that is the first byte of its line but for
-- blanks is a sign in a `#` line alone. An include name stands directly behind the word `include`, and a `<` there is a
-- sign only where no `>` follows on its line.
abbrev pub FitsC : (line named : Bool) → ℕ → (before bytes : List ℕ) → TokKind → Type 0
FitsC line named depth before bytes kinds.Identifier = prefix_size bytes ≡ 0
FitsC line named depth before bytes (kinds.Sign signs.Hash) =
    depth ≡ 0 → fresh_after true before ≡ true → line ≡ true
FitsC line named depth before bytes kinds.IncludeName = named ≡ true
FitsC line named depth before bytes (kinds.Sign signs.Less) = named ≡ true → closes_on_line (drop 1 bytes) ≡ false
FitsC line named depth before bytes kind = Unit {0}

-- So it is among answers up to the first section code, before which so many comments and inner texts are open, a `#`
-- line goes on or not, and the last answer is its word `include` or not. Each token is marked that has such a line
-- before or behind it, and no other.
abbrev pub AllFitC : List ℕ → (line named : Bool) → ℕ → List Answer → Type 0
AllFitC text line named depth [] = Unit {0}
AllFitC text line named depth (Token t ∷ answers) = is_section_kind t.kind ≡ false
    → (t.hash_line ≡ (line || hash_line_by line t.kind))
    × FitsC line named depth (take t.span.start text) (drop t.span.start text) t.kind
    × AllFitC text (hash_line_by line t.kind) (names_file line (drop t.span.start text) t.kind) depth answers
AllFitC text line named depth (Begin t ∷ answers) =
    (t.hash_line ≡ line) × AllFitC text line false (depth + 1) answers
AllFitC text line named depth (Finish t ∷ answers) =
    (t.hash_line ≡ line) × AllFitC text line false (depth - 1) answers
AllFitC text line named depth (Note kind place ∷ answers) = AllFitC text line named depth answers

-- So it is with the tokens of all bytes that are scanned.
pub record TokensAreLongest : Type 0 where
  pub tokens : (text : List ℕ) (start end : ℕ) (mode : Mode)
      → AreLongest (take end text) (tokens_of text start end mode)
  pub c_parts : (text : List ℕ) (start end : ℕ)
      → AllFitC (take end text) false false 0 (tokens_of text start end modes.CPart)
