-- What the scanner answers, and what the rules for tokens give.
use Rattle.std.specs.Prelude.{◌≡◌, ℕ, ◌+◌, Bool, true, false, List, [], ◌∷◌, ◌++◌, take}
use Rattle.cw_base.specs.declared.notes.NoteKind.{NoteKind}
use Rattle.cw_base.specs.declared.span.Span.{Span}
use Rattle.cw_rules.specs.declared.bodies.NoteAt.{NoteAt}
use Rattle.cw_rules.specs.declared.parts.Part.{Part}
use Rattle.cw_rules.specs.declared.parts.Opened.{Opened}
use Rattle.cw_rules.specs.declared.tokens.Directive.{Directive}
use Rattle.cw_rules.specs.declared.tokens.Directive.TheVariants.{No}
use Rattle.cw_rules.specs.declared.tokens.TokKind.{TokKind}
use Rattle.cw_rules.specs.declared.tokens.TokKind.TheVariants as kinds
use Rattle.cw_rules.specs.declared.tokens.Tok.{Tok}
use Rattle.cw_rules.specs.declared.tokens.Lexed.{Lexed}
use Rattle.cw_rules.specs.declared.tokens.Lexed.TheVariants as lexed

-- a token, without where its bytes lie in memory
pub record Seen : Type 0 where
  pub kind : TokKind
  pub text : List ℕ
  pub span : Span
  pub hash_line : Bool
  pub directive : Directive

abbrev pub seen : Tok → Seen
seen t = record {
  kind = t.kind;
  text = t.text.now;
  span = t.span;
  hash_line = t.hash_line;
  directive = t.directive;
}

pub data Answer : Type 0 where
  Token : (token : Seen) → Answer
  Begin : (token : Seen) → Answer
  Finish : (token : Seen) → Answer
  Note : (kind : NoteKind) → (place : ℕ) → Answer

-- The first of the old answers is this one, and the new ones are the rest; at the end there are none.
abbrev pub Gives : List Answer → Lexed → List Answer → Type 0
Gives old (lexed.Token t) new = old ≡ Token (seen t) ∷ new
Gives old (lexed.Begin t) new = old ≡ Begin (seen t) ∷ new
Gives old (lexed.Finish t) new = old ≡ Finish (seen t) ∷ new
Gives old (lexed.Note kind place) new = old ≡ Note kind place ∷ new
Gives old lexed.End new = (old ≡ []) × (new ≡ [])

-- Where the scanner stands: in a part, and in open comments, the innermost first.
pub record Where : Type 0 where
  pub part : Part
  pub comments : List Opened

-- A place of a text, and what the rules know of it: where the scanner stands there, the byte before it, and whether
-- only blanks stand before it on its line.
pub record Spot : Type 0 where
  pub stands : Where
  pub fresh : Bool
  pub last : ℕ
  pub place : ℕ

-- A token with its size and its notes, and whether it is a word of a directive.
pub record Cut : Type 0 where
  pub kind : TokKind
  pub directive : Directive
  pub size : ℕ
  pub notes : List NoteAt

-- What begins at a place: its answers, how many bytes belong to it behind its first, and where the text goes on.
pub record ScanStep : Type 0 where
  pub answers : List Answer
  pub more : ℕ
  pub next : Where

-- answers that take no byte, before what begins there
abbrev pub before : List Answer → ScanStep → ScanStep
before answers f = record { answers = answers ++ f.answers; more = f.more; next = f.next }

abbrev pub note_answers : List NoteAt → List Answer
note_answers [] = []
note_answers (n ∷ notes) = Note n.kind n.place ∷ note_answers notes

-- a token of this size at a place, which is no word of a directive
abbrev pub token_of : Bool → TokKind → ℕ → ℕ → List ℕ → Seen
token_of hash_line kind place size bytes =
    record {
      kind = kind;
      text = take size bytes;
      span = record { start = place; end = place + size };
      hash_line = hash_line;
      directive = No;
    }

-- the token of a cut
abbrev pub cut_token : Bool → Cut → ℕ → List ℕ → Seen
cut_token hash_line cut place bytes =
    record (token_of hash_line cut.kind place cut.size bytes) { directive = cut.directive }

-- a cut without notes
abbrev pub plain : TokKind → ℕ → Cut
plain kind size = record { kind = kind; directive = No; size = size; notes = [] }

-- a cut that is dropped, with the note why before its own
abbrev pub dropped : NoteKind → ℕ → Cut → Cut
dropped note place cut =
    record {
      kind = kinds.Dropped;
      directive = No;
      size = cut.size;
      notes = record { kind = note; place = place } ∷ cut.notes;
    }

-- ## The sign of a named C part

abbrev pub is_head_sign : TokKind → Bool
is_head_sign kinds.HeadSign = true
is_head_sign kind = false

-- The sign stands behind a name, after the name's notes.
abbrev pub has_sign : List Answer → Bool
has_sign [] = false
has_sign (Token token ∷ answers) = is_head_sign token.kind
has_sign (Begin token ∷ answers) = false
has_sign (Finish token ∷ answers) = false
has_sign (Note note place ∷ answers) = has_sign answers
