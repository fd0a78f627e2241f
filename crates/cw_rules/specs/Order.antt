-- Where the tokens of a text stand: on the bytes that are scanned, one behind another, and on all of them but white
-- space.
use Rattle.std.specs.Prelude.{◌≡◌, ℕ, ◌<◌, ◌≤◌, Bool, true, false, ◌&&◌, ◌||◌, ◌==◌, List, [], ◌∷◌, drop, slice_range}
use Rattle.cw_base.specs.declared.span.Span.{Span}
use Rattle.cw_rules.specs.declared.classes.Class.TheVariants.{White}
use Rattle.cw_rules.specs.Answers.{Answer, Token, Begin, Finish, Note, Seen}
use Rattle.cw_base.specs.Bytes.{newline, backslash}
use Rattle.cw_rules.specs.Bytes.{begins, is_in}

-- The bytes begin with white space: a blank, a line's end, or a backslash before a line's end.
abbrev pub begins_space : List ℕ → Bool
begins_space [] = false
begins_space (byte ∷ bytes) = is_in White byte || (byte == backslash && begins newline bytes)

-- Nothing but white space stands from one place up to another.
abbrev pub IsSpace : List ℕ → ℕ → ℕ → Type 0
IsSpace text from end = (place : ℕ) → from ≤ place → place < end → begins_space (drop place text) ≡ true

-- A token stands in a text behind a place: its bytes are those of its span, and only white space stands before it.
pub record Stands (text : List ℕ) (from : ℕ) (token : Seen) : Type 0 where
  pub order : from ≤ token.span.start
  pub span : token.span.start ≤ token.span.end
  pub slice : token.text ≡ slice_range text token.span.start token.span.end
  pub space : IsSpace text from token.span.start

-- The answers cover a text from one place up to another: tokens, and the bytes that begin and end comments and inner
-- texts, stand one behind another, with only white space between them. Each token has a byte.
abbrev pub Covers : List ℕ → ℕ → ℕ → List Answer → Type 0
Covers text from end [] = (from ≤ end) × IsSpace text from end
Covers text from end (Token t ∷ answers) =
    Stands text from t × (t.span.start < t.span.end) × Covers text t.span.end end answers
Covers text from end (Begin t ∷ answers) = Stands text from t × Covers text t.span.end end answers
Covers text from end (Finish t ∷ answers) = Stands text from t × Covers text t.span.end end answers
Covers text from end (Note kind place ∷ answers) = Covers text from end answers

-- A span lies between two places.
abbrev pub LiesWithin : ℕ → ℕ → Span → Type 0
LiesWithin start end span = (start ≤ span.start) × (span.start ≤ span.end) × (span.end ≤ end)

-- The spans of all answers lie between two places.
abbrev pub AreWithin : ℕ → ℕ → List Answer → Type 0
AreWithin start end [] = Unit {0}
AreWithin start end (Token t ∷ answers) = LiesWithin start end t.span × AreWithin start end answers
AreWithin start end (Begin t ∷ answers) = LiesWithin start end t.span × AreWithin start end answers
AreWithin start end (Finish t ∷ answers) = LiesWithin start end t.span × AreWithin start end answers
AreWithin start end (Note kind place ∷ answers) = AreWithin start end answers
