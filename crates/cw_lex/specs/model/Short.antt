-- The quick tokens of C text.
use Rattle.std.specs.Prelude.{◌≡◌, ℕ, ◌+◌, ◌<◌, ◌≤◌, Bool, not, ◌&&◌, ◌||◌, ◌==◌, List, [], length}
use Rattle.cw_rules.specs.declared.classes.Class.TheVariants.{Digit}
use Rattle.cw_rules.specs.declared.parts.Start.TheVariants as start
use Rattle.cw_lex.specs.declared.short.Short.{Short}
use Rattle.cw_lex.specs.declared.short.Quick.{Quick}
use Rattle.cw_lex.specs.declared.short.Quick.TheVariants as quick
use Rattle.cw_rules.specs.Bytes.{begins_by, is_in, hash, dot, slash}
use Rattle.cw_base.specs.Text.{bar}
use Rattle.cw_rules.specs.Answers.{Where, plain}
use Rattle.cw_rules.specs.Tokens.{one, moved, passed, in_hash_line, in_code, inner_end}
use Rattle.cw_lex.specs.model.Coming.{found_at}
use Rattle.cw_lex.specs.Lexing.{answers_at}
use Rattle.cw_rules.specs.model.Cuttings.{bytes_at}

-- A token without notes begins at a place, behind which the C text goes on as it does.
pub record IsShort (text : List ℕ) (w : Where) (place : ℕ) (short : Short) : Type 0 where
  pub some : 0 < short.size
  pub within : place + short.size ≤ length text
  pub found : found_at text w place ≡ one (in_hash_line w.part) (moved w (passed w.part)) place (bytes_at text place)
      (plain short.kind short.size)

-- a byte that begins no token but signs, where it begins a sign and no include name is wanted
abbrev pub is_lone : ℕ → Bool
is_lone byte = not (byte == slash || byte == dot || byte == bar || byte == hash)

-- the same of a byte with those behind it: a dot begins a constant before a digit
abbrev pub is_alone : ℕ → List ℕ → Bool
is_alone byte bytes = is_lone byte || (byte == dot && not (begins_by (is_in Digit) bytes))

-- a string with this quote begins
abbrev pub BeginsString : List ℕ → Where → ℕ → ℕ → Type 0
BeginsString text w place quote =
    (place < length text) × (found_at text w place ≡ in_code (start.Quoted quote) w place (bytes_at text place))

-- a bar ends inner C text
abbrev pub EndsInner : List ℕ → Where → ℕ → Type 0
EndsInner text w place = (place < length text) × (found_at text w place ≡ inner_end w place (bytes_at text place))

-- A look tells so of the token that begins at a place.
abbrev pub IsQuick : List ℕ → Where → ℕ → Quick → Type 0
IsQuick text w place (quick.Short short) = IsShort text w place short
IsQuick text w place (quick.Quoted quote) = BeginsString text w place quote
IsQuick text w place quick.EndOfInner = EndsInner text w place
IsQuick text w place quick.End = answers_at text w place ≡ []
