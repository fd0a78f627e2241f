-- The models beside `specs/HeadReading`.
use Rattle.std.specs.Prelude.{◌≡◌, ℕ, Bool, true, false, List, [], ◌∷◌, ◌++◌, length, Option, Some, None}
use Rattle.cw_rules.specs.Answers.{Answer, Token, Begin, Finish, Note, Seen, seen}
use Rattle.cw_rules.specs.declared.codes.Code.TheVariants as code
use Rattle.cw_lex.specs.declared.heads.Expectation.{Expectation}
use Rattle.cw_lex.specs.declared.heads.Expectation.TheVariants as wants
use Rattle.cw_rules.specs.declared.tokens.Tok.{Tok}
use Rattle.cw_rules.specs.declared.tokens.TokKind.{TokKind}
use Rattle.cw_rules.specs.declared.tokens.TokKind.TheVariants as kind
use Rattle.cw_lex.specs.Heads.{Head, Headless, Macro, Format, Named, head_behind}
use Rattle.cw_trees.specs.declared.Control.TheVariants as control
use Rattle.cw_tokens.specs.declared.token.Token.{Token as StoredToken}
use Rattle.cw_tokens.specs.declared.token.Token.TheVariants as token
use Rattle.cw_reduce.specs.declared.heads.Beginning.{Beginning}
use Rattle.cw_reduce.specs.declared.heads.HeadRead.{HeadRead}
use Rattle.cw_reduce.specs.declared.heads.HeadRead.TheVariants as read
use Rattle.cw_translator.specs.Opening.{answers_in}
use Rattle.cw_translator.specs.Translating.{dead, dollared, name_in_text, names_in_text}

-- The codes of definitions, and section names, may begin heads.
abbrev pub is_definition : TokKind → Bool
is_definition (kind.Code code.Define) = true
is_definition (kind.Code code.Format) = true
is_definition (kind.Code code.SilentFormat) = true
is_definition k = false

-- the head of a named C part, where there is one
abbrev pub head_named : HeadRead → Head
head_named (read.Named number sign) = Named number sign
head_named head = Headless

-- what was read and doesn't belong to the head
abbrev pub name_ahead : Option Tok → List Answer
name_ahead None = []
name_ahead (Some name) = Token (seen name) ∷ []

abbrev pub answers_ahead : Beginning → List Answer
answers_ahead b = name_ahead b.name ++ answers_in b.next

-- ## Answers

-- the answers from the first on that is no note
abbrev pub without_notes : List Answer → List Answer
without_notes (Note note place ∷ answers) = without_notes answers
without_notes answers = answers

-- the words at the beginning of the answers that belong to a head which wants this
abbrev pub answer_words : Expectation → List Answer → List Seen
answer_words wanted [] = []
answer_words wanted (Token token ∷ answers) = elim (head_behind wanted token.kind token.span) [
  | Some next ↦ token ∷ answer_words next answers
  | None ↦ []
]
answer_words wanted (Begin token ∷ answers) = []
answer_words wanted (Finish token ∷ answers) = []
answer_words wanted (Note note place ∷ answers) = answer_words wanted answers

-- ## Lists

-- the tokens of the heads of definitions, from those of their words
abbrev pub macro_tokens : ℕ → List StoredToken → List StoredToken
macro_tokens number words = (dead number (dollared words ++ token.Control control.OptionalBreak ∷ [])).tokens

abbrev pub with_break : List StoredToken → List StoredToken
with_break [] = token.Control control.OptionalBreak ∷ []
with_break (first ∷ later) = name_in_text first ++ token.Control control.OptionalBreak ∷ names_in_text later

abbrev pub format_tokens : ℕ → List StoredToken → List StoredToken
format_tokens number words = (dead number (with_break words)).tokens

abbrev pub words_tokens : Expectation → ℕ → List StoredToken → Option (List StoredToken)
words_tokens wants.Macro number words = Some (macro_tokens number words)
words_tokens (wants.First false) number words = Some (format_tokens number words)
words_tokens wanted number words = None

-- a list is the last of a store, and has these tokens
pub record IsLast (tokens : List StoredToken) (list : ℕ) (old new : List (List StoredToken)) : Type 0 where
  pub list_is : list ≡ length old
  pub lists : new ≡ old ++ tokens ∷ []

-- the list of a head is new, where it has one
abbrev pub HasTokens : Option (List StoredToken) → HeadRead → List (List StoredToken) → List (List StoredToken) → Type 0
HasTokens (Some tokens) (read.Dead list) old new = IsLast tokens list.index old new
HasTokens None read.None old new = new ≡ old
HasTokens tokens head old new = ⊥
