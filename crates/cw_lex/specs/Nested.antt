-- How the answers over C text are nested.
use Rattle.std.specs.Prelude.{◌≡◌, ℕ, Bool, true, false, Option, Some, None, List, [], ◌∷◌, if◌then◌else◌}
use Rattle.std.specs.List.{list_any}
use Rattle.cw_rules.specs.declared.codes.Code.TheVariants as code
use Rattle.cw_rules.specs.declared.tokens.Mode.{Mode}
use Rattle.cw_rules.specs.declared.tokens.Mode.TheVariants as modes
use Rattle.cw_rules.specs.declared.tokens.TokKind.{TokKind}
use Rattle.cw_rules.specs.declared.tokens.TokKind.TheVariants as kind
use Rattle.cw_rules.specs.Answers.{Answer, Token, Begin, Finish, Note}
use Rattle.cw_lex.specs.Lexing.{tokens_of}

-- Answers are nested: pieces of text stand in comments and other tokens in C text, comments begin in C text and inner
-- texts in comments, and what begins ends.
pub data Level : Type 0 where
  InCode : Level
  InComment : Level

abbrev pub after_token : TokKind → List Level → Option (List Level)
after_token kind.Text (InComment ∷ levels) = Some (InComment ∷ levels)
after_token kind.Text levels = None
after_token k (InCode ∷ levels) = Some (InCode ∷ levels)
after_token k levels = None

abbrev pub after_begin : TokKind → List Level → Option (List Level)
after_begin kind.InnerText (InComment ∷ levels) = Some (InCode ∷ InComment ∷ levels)
after_begin kind.LongComment (InCode ∷ levels) = Some (InComment ∷ InCode ∷ levels)
after_begin kind.ShortComment (InCode ∷ levels) = Some (InComment ∷ InCode ∷ levels)
after_begin k levels = None

abbrev pub after_finish : List Level → Option (List Level)
after_finish (InCode ∷ InComment ∷ levels) = Some (InComment ∷ levels)
after_finish (InComment ∷ InCode ∷ levels) = Some (InCode ∷ levels)
after_finish levels = None

-- inner C text
abbrev pub is_inner_kind : TokKind → Bool
is_inner_kind kind.InnerText = true
is_inner_kind _ = false

abbrev pub levels_after : Answer → List Level → Option (List Level)
levels_after (Token token) levels = after_token token.kind levels
levels_after (Begin token) levels = after_begin token.kind levels
levels_after (Finish token) levels = after_finish levels
levels_after (Note note place) levels = Some levels

abbrev pub all_levels_after : List Answer → List Level → Option (List Level)
all_levels_after [] levels = Some levels
all_levels_after (answer ∷ answers) levels = elim (levels_after answer levels) [
  | None ↦ None
  | Some next ↦ all_levels_after answers next
]

abbrev pub IsNested : List Answer → Type 0
IsNested answers = all_levels_after answers (InCode ∷ []) ≡ Some (InCode ∷ [])

-- a section code among the answers
abbrev pub is_section_kind : TokKind → Bool
is_section_kind (kind.Code code.Section) = true
is_section_kind (kind.Code code.StarredSection) = true
is_section_kind _ = false

abbrev pub is_section_answer : Answer → Bool
is_section_answer (Token token) = is_section_kind token.kind
is_section_answer _ = false

abbrev pub begins_section_in : List Answer → Bool
begins_section_in answers = list_any is_section_answer answers

-- the answers before the first section code
abbrev pub until_section : List Answer → List Answer
until_section [] = []
until_section (answer ∷ answers) = if is_section_answer answer then [] else answer ∷ until_section answers

-- the modes of C texts
abbrev pub is_c_mode : Mode → Bool
is_c_mode modes.CPart = true
is_c_mode modes.Inner = true
is_c_mode modes.Definition = true
is_c_mode _ = false

-- the modes of C texts in which no definition begins
abbrev pub is_plain_c_mode : Mode → Bool
is_plain_c_mode modes.CPart = true
is_plain_c_mode modes.Inner = true
is_plain_c_mode _ = false

-- TeX text: inner C texts stand in it, each of them nested. It has no level of its own.
abbrev pub tex_levels_after : Answer → List Level → Option (List Level)
tex_levels_after (Token token) [] = Some []
tex_levels_after (Begin token) [] = if is_inner_kind token.kind then Some (InCode ∷ []) else None
tex_levels_after (Finish token) (InCode ∷ []) = Some []
tex_levels_after answer levels = levels_after answer levels

abbrev pub all_tex_levels_after : List Answer → List Level → Option (List Level)
all_tex_levels_after [] levels = Some levels
all_tex_levels_after (answer ∷ answers) levels = elim (tex_levels_after answer levels) [
  | None ↦ None
  | Some next ↦ all_tex_levels_after answers next
]

abbrev pub IsTexNested : List Answer → Type 0
IsTexNested answers = all_tex_levels_after answers [] ≡ Some []

-- The next part of a section, or the next section, begins among the answers: at its code, or at the sign behind a name.
abbrev pub is_part_kind : TokKind → Bool
is_part_kind (kind.Code code.Section) = true
is_part_kind (kind.Code code.StarredSection) = true
is_part_kind (kind.Code code.Define) = true
is_part_kind (kind.Code code.Format) = true
is_part_kind (kind.Code code.SilentFormat) = true
is_part_kind (kind.Code code.Program) = true
is_part_kind kind.HeadSign = true
is_part_kind _ = false

abbrev pub is_part_answer : Answer → Bool
is_part_answer (Token token) = is_part_kind token.kind
is_part_answer _ = false

abbrev pub begins_part_in : List Answer → Bool
begins_part_in answers = list_any is_part_answer answers

-- The answers over a C part, over definitions and over inner C text are nested up to the first section code: what is
-- open there ends before it.
abbrev pub CTextsNestUpToSections : Type 0
CTextsNestUpToSections = (text : List ℕ) (start end : ℕ) (mode : Mode) → is_c_mode mode ≡ true
    → IsNested (until_section (tokens_of text start end mode))

-- The answers over TeX text are nested, where no other part begins in it.
abbrev pub TexTextsAreNested : Type 0
TexTextsAreNested = (text : List ℕ) (start end : ℕ) → begins_part_in (tokens_of text start end modes.TexText) ≡ false
    → IsTexNested (tokens_of text start end modes.TexText)

-- The same of whole answers, where no section code cuts them.
abbrev pub CTextsAreNested : Type 0
CTextsAreNested = (text : List ℕ) (start end : ℕ) (mode : Mode) → is_c_mode mode ≡ true
    → begins_section_in (tokens_of text start end mode) ≡ false → IsNested (tokens_of text start end mode)
