-- The heads with which definitions and named C parts begin.
use Rattle.std.specs.Prelude.{ℕ, true, false, ◌==◌, Option, Some, None, List, [], ◌∷◌, if◌then◌else◌}
use Rattle.cw_base.specs.declared.span.Span.{Span}
use Rattle.cw_rules.specs.Answers.{Answer, Token, Begin, Finish, Note, Seen, is_head_sign}
use Rattle.cw_rules.specs.declared.codes.Code.TheVariants as code
use Rattle.cw_lex.specs.declared.heads.Expectation.{Expectation}
use Rattle.cw_lex.specs.declared.heads.Expectation.TheVariants as wants
use Rattle.cw_rules.specs.declared.signs.Sign.TheVariants as sign
use Rattle.cw_rules.specs.declared.tokens.TokKind.{TokKind}
use Rattle.cw_rules.specs.declared.tokens.TokKind.TheVariants as kind
use Rattle.cw_lex.specs.Nest.{Nest, Leaf}

-- ## Which tokens belong to the head of a definition

-- What a head wants behind a name that belongs to it and ends at this place; None where the name doesn't belong to it.
abbrev pub word_behind : Expectation → ℕ → Option Expectation
word_behind wants.Macro end = Some (wants.Parenthesis end)
word_behind wants.Parameters end = Some wants.Parameters
word_behind (wants.First silent) end = Some (wants.Second silent)
word_behind (wants.Second silent) end = Some wants.Nothing
word_behind wanted end = None

-- A `(` directly behind the name of a macro opens its parameters.
abbrev pub opening_behind : Expectation → ℕ → Option Expectation
opening_behind (wants.Parenthesis place) start = if place == start then Some wants.Parameters else None
opening_behind wanted start = None

-- Commas and `...` stand among parameters, and `)` ends them.
abbrev pub separator_behind : Expectation → Option Expectation
separator_behind wants.Parameters = Some wants.Parameters
separator_behind wanted = None

abbrev pub closing_behind : Expectation → Option Expectation
closing_behind wants.Parameters = Some wants.Nothing
closing_behind wanted = None

-- A token: what the head wants behind it; None where the head ends before it. A comment always ends a head.
abbrev pub head_behind : Expectation → TokKind → Span → Option Expectation
head_behind wanted kind.Identifier span = word_behind wanted span.«end»
head_behind wanted (kind.Sign sign.LeftParen) span = opening_behind wanted span.start
head_behind wanted (kind.Sign sign.Comma) span = separator_behind wanted
head_behind wanted (kind.Sign sign.Ellipsis) span = separator_behind wanted
head_behind wanted (kind.Sign sign.RightParen) span = closing_behind wanted
head_behind wanted k span = None

-- what the code of a definition wants; the other codes begin no head
abbrev pub wanted_by : TokKind → Expectation
wanted_by (kind.Code code.Define) = wants.Macro
wanted_by (kind.Code code.Format) = wants.First false
wanted_by (kind.Code code.SilentFormat) = wants.First true
wanted_by k = wants.Nothing

-- ## The sign of a named C part

-- The answers behind the sign, where it stands.
abbrev pub behind_sign : List Answer → Option (List Answer)
behind_sign [] = None
behind_sign (Token token ∷ answers) = if is_head_sign token.kind then Some answers else None
behind_sign (Begin token ∷ answers) = None
behind_sign (Finish token ∷ answers) = None
behind_sign (Note note place ∷ answers) = behind_sign answers

-- ## The head of a text

-- A head: that of a macro or of a format definition, with the code's number and its words as far as they go; that of a
-- definition that prints nothing, with its words; that of a named C part, with the numbers of its name and its sign.
pub data Head : Type 0 where
  Headless : Head
  Macro : (number : ℕ) → (words : List Seen) → Head
  Format : (number : ℕ) → (words : List Seen) → Head
  Silent : (words : List Seen) → Head
  Named : (number : ℕ) → (sign : ℕ) → Head

-- a head, and what stands behind it
pub record Headed : Type 0 where
  pub head : Head
  pub rest : Nest

-- the words of a head, and what stands behind them
pub record Words : Type 0 where
  pub words : List Seen
  pub rest : Nest

abbrev pub no_word : Nest → Words
no_word rest = record { words = []; rest = rest }

abbrev pub word_before : Seen → Words → Words
word_before token more = record { words = token ∷ more.words; rest = more.rest }

-- the words that belong to a head which wants this
abbrev pub head_words : Expectation → Nest → Words
head_words wanted (Leaf token rest) = elim (head_behind wanted token.kind token.span) [
  | Some next ↦ word_before token (head_words next rest)
  | None ↦ no_word (Leaf token rest)
]
head_words wanted rest = no_word rest

abbrev pub macro_headed : ℕ → Words → Headed
macro_headed number all = record { head = Macro number all.words; rest = all.rest }

abbrev pub format_headed : ℕ → Words → Headed
format_headed number all = record { head = Format number all.words; rest = all.rest }

abbrev pub silent_headed : Words → Headed
silent_headed all = record { head = Silent all.words; rest = all.rest }

abbrev pub headless : Nest → Headed
headless rest = record { head = Headless; rest = rest }

-- a name, which heads a C part where its sign stands behind it
abbrev pub named_headed : Seen → Nest → Headed
named_headed name (Leaf token rest) =
    if is_head_sign token.kind then record { head = Named name.span.start token.span.start; rest = rest }
    else headless (Leaf name (Leaf token rest))
named_headed name rest = headless (Leaf name rest)

abbrev pub headed_by : TokKind → Seen → Nest → Headed
headed_by (kind.Code code.Define) token rest = macro_headed token.span.start (head_words wants.Macro rest)
headed_by (kind.Code code.Format) token rest = format_headed token.span.start (head_words (wants.First false) rest)
headed_by (kind.Code code.SilentFormat) token rest = silent_headed (head_words (wants.First true) rest)
headed_by (kind.Code code.SectionName) token rest = named_headed token rest
headed_by (kind.Code code.FileName) token rest = named_headed token rest
headed_by k token rest = headless (Leaf token rest)

-- the head with which a text begins
abbrev pub headed : Nest → Headed
headed (Leaf token rest) = headed_by token.kind token rest
headed rest = headless rest

-- ## The answers behind a head

-- the answers behind the words of a head that wants this
abbrev pub without_words : Expectation → List Answer → List Answer
without_words wanted [] = []
without_words wanted (Token token ∷ answers) = elim (head_behind wanted token.kind token.span) [
  | Some next ↦ without_words next answers
  | None ↦ Token token ∷ answers
]
without_words wanted (Begin token ∷ answers) = Begin token ∷ answers
without_words wanted (Finish token ∷ answers) = Finish token ∷ answers
without_words wanted (Note note place ∷ answers) = without_words wanted answers

abbrev pub without_name : Seen → List Answer → List Answer
without_name name answers = elim (behind_sign answers) [ Some rest ↦ rest | None ↦ Token name ∷ answers ]

abbrev pub without_head_of : TokKind → Seen → List Answer → List Answer
without_head_of (kind.Code code.Define) token answers = without_words wants.Macro answers
without_head_of (kind.Code code.Format) token answers = without_words (wants.First false) answers
without_head_of (kind.Code code.SilentFormat) token answers = without_words (wants.First true) answers
without_head_of (kind.Code code.SectionName) token answers = without_name token answers
without_head_of (kind.Code code.FileName) token answers = without_name token answers
without_head_of k token answers = Token token ∷ answers

-- the answers behind the head with which they begin
abbrev pub without_head : List Answer → List Answer
without_head [] = []
without_head (Token token ∷ answers) = without_head_of token.kind token answers
without_head (Begin token ∷ answers) = Begin token ∷ answers
without_head (Finish token ∷ answers) = Finish token ∷ answers
without_head (Note note place ∷ answers) = without_head answers
