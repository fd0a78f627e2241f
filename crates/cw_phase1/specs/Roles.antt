-- What each token is in its web: its section, its part, its role there, and the name that is kept for it.
use Rattle.std.specs.Prelude.{ℕ, ◌+◌, Bool, true, false, List, [], ◌∷◌, Option, Some, None}
use Rattle.cw_base.specs.declared.span.Span.{Span}
use Rattle.cw_rules.specs.declared.codes.Code.{Code}
use Rattle.cw_rules.specs.declared.codes.Code.TheVariants as at
use Rattle.cw_lex.specs.declared.heads.Expectation.{Expectation}
use Rattle.cw_lex.specs.declared.heads.Expectation.TheVariants as wants
use Rattle.cw_rules.specs.declared.tokens.TokKind.{TokKind}
use Rattle.cw_rules.specs.declared.tokens.TokKind.TheVariants as kinds
use Rattle.cw_rules.specs.Answers.{Seen, Answer, Token, Begin, Finish, Note, has_sign}
use Rattle.cw_lex.specs.Heads.{head_behind}
use Rattle.cw_names.specs.declared.entry.EntryKind.TheVariants.{Roman, Typewriter, User}
use Rattle.cw_phase1.specs.declared.roles.Part.{Part}
use Rattle.cw_phase1.specs.declared.roles.Part.TheVariants as parts
use Rattle.cw_phase1.specs.declared.roles.Role.{Role}
use Rattle.cw_phase1.specs.declared.roles.Role.TheVariants as roles
use Rattle.cw_phase1.specs.declared.roles.Standing.{Standing}
use Rattle.cw_phase1.specs.Entering.{entered_name, kept_behind}
use Rattle.cw_secnames.specs.declared.kinds.RefKind.{RefKind}
use Rattle.cw_secnames.specs.declared.kinds.RefKind.TheVariants.{Defined, Used, Cited}
use Rattle.cw_secnames.specs.declared.kinds.SecId.{SecId}
use Rattle.cw_secnames.specs.Kept.{SecName}

-- a token in its place; a section name that isn't ignored has a name that is kept for it
pub record Placement : Type 0 where
  pub section : ℕ
  pub part : Part
  pub role : Role
  pub token : Seen
  pub name : Option SecId

-- the role of a token, in the section and part that `next` has, and what is wanted behind it
pub record Step : Type 0 where
  pub role : Role
  pub next : Standing

abbrev pub stay : Role → Standing → Step
stay role s = record { role = role; next = s }

abbrev pub go : Part → Expectation → Standing → Step
go part wanted s = record { role = roles.Plain; next = record s { part = part; wanted = wanted } }

-- ## Codes

-- A definition in limbo leaves limbo as it is.
abbrev pub defining : Part → Part
defining parts.Limbo = parts.Limbo
defining part = parts.Definitions

-- A name without a sign behind it is cited in a TeX part, and used elsewhere.
abbrev pub reference_in : Part → RefKind
reference_in parts.Tex = Cited
reference_in part = Used

-- A name with a sign behind it begins a C part, which it defines.
abbrev pub name_step : Bool → Standing → Step
name_step true s = record { role = roles.Name Defined; next = record s { part = parts.Program } }
name_step false s = stay (roles.Name (reference_in s.part)) s

abbrev pub section_step : Standing → Step
section_step s =
    record {
      role = roles.SectionCode;
      next = record { section = s.section + 1; part = parts.Tex; wanted = wants.Nothing };
    }

-- `headed` says that the sign of a head stands behind the token.
abbrev pub code_step : Code → Bool → Standing → Step
code_step at.Section headed s = section_step s
code_step at.StarredSection headed s = section_step s
code_step at.Define headed s = go (defining s.part) wants.Macro s
code_step at.Format headed s = go (defining s.part) (wants.First false) s
code_step at.SilentFormat headed s = go (defining s.part) (wants.First true) s
code_step at.Program headed s = go parts.Program wants.Nothing s
code_step at.SectionName headed s = name_step headed s
code_step at.FileName headed s = name_step headed s
code_step at.Roman headed s = stay (roles.Entry Roman) s
code_step at.Typewriter headed s = stay (roles.Entry Typewriter) s
code_step at.UserEntry headed s = stay (roles.Entry User) s
code_step at.Underline headed s = stay roles.Underline s
code_step code headed s = stay roles.Plain s

-- ## Tokens

-- The role of a word in the head of a definition is by what the head wants there.
abbrev pub word_role : Expectation → Role
word_role wants.Macro = roles.MacroName
word_role wants.Parameters = roles.Parameter
word_role (wants.First silent) = roles.FirstName silent
word_role (wants.Second silent) = roles.SecondName silent
word_role wanted = roles.Word

abbrev pub head_role : Expectation → TokKind → Role
head_role wanted kinds.Identifier = word_role wanted
head_role wanted kind = roles.Plain

-- a token that belongs to no head
abbrev pub free_step : TokKind → Bool → Standing → Step
free_step kinds.Identifier headed s = stay roles.Word s
free_step (kinds.Code code) headed s = code_step code headed s
free_step kind headed s = stay roles.Plain s

-- a token that belongs to a head, which wants this behind it; a head ends before a token that doesn't belong to it
abbrev pub token_step_by : Option Expectation → TokKind → Bool → Standing → Step
token_step_by (Some next) kind headed s = record { role = head_role s.wanted kind; next = record s { wanted = next } }
token_step_by None kind headed s = free_step kind headed (record s { wanted = wants.Nothing })

abbrev pub token_step : TokKind → Bool → Standing → Span → Step
token_step kind headed s span = token_step_by (head_behind s.wanted kind span) kind headed s

-- A comment or inner text ends a head.
abbrev pub behind_begin : Standing → Standing
behind_begin s = record s { wanted = wants.Nothing }

abbrev pub placed_by : Seen → Option SecId → Step → Placement
placed_by token name s =
    record { section = s.next.section; part = s.next.part; role = s.role; token = token; name = name }

abbrev pub placed_before : Seen → Option SecId → Step → (Standing → List Placement) → List Placement
placed_before token name s rest = placed_by token name s ∷ rest s.next

-- The tokens of answers, where the text stands in such a way and these names are kept.
abbrev pub placed_from : Standing → List SecName → List Answer → List Placement
placed_from s kept [] = []
placed_from s kept (Token token ∷ answers) =
    placed_before token (entered_name token kept) (token_step token.kind (has_sign answers) s token.span)
    (λ next. placed_from next (kept_behind token kept) answers)
placed_from s kept (Begin token ∷ answers) = placed_from (behind_begin s) kept answers
placed_from s kept (Finish token ∷ answers) = placed_from s kept answers
placed_from s kept (Note kind place ∷ answers) = placed_from s kept answers

abbrev pub at_limbo : Standing
at_limbo = record { section = 0; part = parts.Limbo; wanted = wants.Nothing }

-- All tokens of a web, in their places.
abbrev pub placed : List Answer → List Placement
placed answers = placed_from at_limbo [] answers
