-- Where a part of a section begins among the answers of a text.
use Rattle.std.specs.Prelude.{◌≡◌, ℕ, ◌≤◌, Bool, true, false, ◌||◌, List, [], ◌∷◌, ◌++◌, Option, Some, None, is_some}
use Rattle.cw_rules.specs.declared.codes.Code.TheVariants as code
use Rattle.cw_rules.specs.declared.tokens.Mode.{Mode}
use Rattle.cw_rules.specs.declared.tokens.Mode.TheVariants as modes
use Rattle.cw_rules.specs.declared.tokens.TokKind.{TokKind}
use Rattle.cw_rules.specs.declared.tokens.TokKind.TheVariants as kind
use Rattle.cw_rules.specs.Answers.{Answer, Token, Begin, Finish, Note, Seen, has_sign}
use Rattle.cw_lex.specs.Lexing.{answers_at, beginning, tokens_of}
use Rattle.cw_lex.specs.Nested.{is_section_kind}

-- the tokens among answers
abbrev pub tokens_in : List Answer → List Seen
tokens_in [] = []
tokens_in (Token token ∷ answers) = token ∷ tokens_in answers
tokens_in (Begin token ∷ answers) = tokens_in answers
tokens_in (Finish token ∷ answers) = tokens_in answers
tokens_in (Note note place ∷ answers) = tokens_in answers

-- Definitions begin at their codes. A C part begins at its code, or at a name behind which the sign of a head stands.
abbrev pub named : Bool → Option Mode
named true = Some modes.CPart
named false = None

abbrev pub opened_by : TokKind → (headed : Bool) → Option Mode
opened_by (kind.Code code.Define) headed = Some modes.Definition
opened_by (kind.Code code.Format) headed = Some modes.Definition
opened_by (kind.Code code.SilentFormat) headed = Some modes.Definition
opened_by (kind.Code code.Program) headed = Some modes.CPart
opened_by (kind.Code code.SectionName) headed = named headed
opened_by (kind.Code code.FileName) headed = named headed
opened_by k headed = None

-- Among these answers, behind which others come, a section begins or another of its parts.
abbrev pub opens_part_before : List Answer → List Answer → Bool
opens_part_before more [] = false
opens_part_before more (Token token ∷ answers) =
    is_section_kind token.kind ||
    (is_some (opened_by token.kind (has_sign (answers ++ more))) || opens_part_before more answers)
opens_part_before more (Begin token ∷ answers) = opens_part_before more answers
opens_part_before more (Finish token ∷ answers) = opens_part_before more answers
opens_part_before more (Note note place ∷ answers) = opens_part_before more answers

abbrev pub opens_part_in : List Answer → Bool
opens_part_in answers = opens_part_before [] answers

abbrev pub is_limbo_mode : Mode → Bool
is_limbo_mode modes.Limbo = true
is_limbo_mode mode = false

-- The text before a token, scanned by itself, has the answers that come before it, but for those at its end that have
-- no bytes: what is cut there ends, with notes.
pub record EndsBefore (text : List ℕ) (start : ℕ) (mode : Mode) (answers : List Answer) (token : Seen) : Type 0 where
  pub order : start ≤ token.span.start
  pub body : List Answer
  pub cut : List Answer
  pub rest : List Answer
  pub alone : tokens_of text start token.span.start mode ≡ body ++ cut
  pub whole : answers ≡ body ++ rest
  pub cut_tokens : tokens_in cut ≡ []
  pub rest_tokens : tokens_in rest ≡ []

-- A text ends before a section code, and behind the code TeX text begins.
abbrev pub TextsEndAtSections : Type 0
TextsEndAtSections =
    (text : List ℕ) (start : ℕ) (mode : Mode) (answers : List Answer) (token : Seen) (more : List Answer)
    → answers_at text (beginning mode) start ≡ answers ++ Token token ∷ more → is_section_kind token.kind ≡ true
    → EndsBefore text start mode answers token × (more ≡ answers_at text (beginning modes.TexText) token.span.«end»)

-- Outside of limbo it ends before a token with which another part of a section begins, and from the token on its
-- answers are those of that part.
abbrev pub TextsEndAtOpenings : Type 0
TextsEndAtOpenings =
    (text : List ℕ) (start : ℕ) (mode opened : Mode) (answers : List Answer) (token : Seen) (more : List Answer)
    → is_limbo_mode mode ≡ false → answers_at text (beginning mode) start ≡ answers ++ Token token ∷ more
    → opened_by token.kind (has_sign more) ≡ Some opened
    → EndsBefore text start mode answers token ×
    (Token token ∷ more ≡ answers_at text (beginning opened) token.span.start)
