-- TeX text in which no other part begins, token by token.
use Rattle.std.specs.Prelude.{◌≡◌, ◌⊎◌, ℕ, ◌+◌, ◌<◌, ◌≤◌, Bool, true, false, List, [], ◌∷◌, ◌++◌, length}
use Rattle.cw_rules.specs.declared.tokens.Mode.TheVariants as modes
use Rattle.cw_rules.specs.Answers.{Answer, Token, Begin, Finish, Note, Seen}
use Rattle.cw_lex.specs.Lexing.{answers_at, beginning, tokens_of}
use Rattle.cw_lex.specs.Limbo.{is_name_kind}
use Rattle.cw_lex.specs.Nested.{begins_section_in}
use Rattle.cw_lex.specs.Openings.{opens_part_in}

-- the answers of TeX text from a place on
abbrev pub tex_at : List ℕ → ℕ → List Answer
tex_at text place = answers_at text (beginning modes.TexText) place

abbrev pub are_notes : List Answer → Bool
are_notes [] = true
are_notes (Token token ∷ answers) = false
are_notes (Begin token ∷ answers) = false
are_notes (Finish token ∷ answers) = false
are_notes (Note note place ∷ answers) = are_notes answers

-- A token with its notes stands at a place, and TeX text goes on behind it. A section name is whole by itself.
pub record GoesOn (text : List ℕ) (place : ℕ) : Type 0 where
  pub token : Seen
  pub notes : List Answer
  pub answers : tex_at text place ≡ Token token ∷ (notes ++ tex_at text token.span.«end»)
  pub only : are_notes notes ≡ true
  pub starts : token.span.start ≡ place
  pub some : place < token.span.«end»
  pub within : token.span.«end» ≤ length text
  pub name : is_name_kind token.kind ≡ true
      → begins_section_in (tokens_of text token.span.start token.span.«end» modes.Inner) ≡ false

-- Inner C text stands at a place: its answers are those of its bytes. Behind it TeX text goes on, or the text ends.
pub record HoldsInner (text : List ℕ) (place : ℕ) : Type 0 where
  pub token : Seen
  pub finish : Seen
  pub rest : List Answer
  pub answers : tex_at text place ≡
      Begin token ∷ (tokens_of text token.span.«end» finish.span.start modes.Inner ++ Finish finish ∷ rest)
  pub begins : place < token.span.«end»
  pub order : token.span.«end» ≤ finish.span.start
  pub within : finish.span.start ≤ length text
  pub goes_on : (are_notes rest ≡ true) ⊎ (rest ≡ tex_at text (finish.span.start + 1))

-- One of the two stands at each place of TeX text.
abbrev pub TexTextsGoOn : Type 0
TexTextsGoOn = (text : List ℕ) (place : ℕ) → place < length text → opens_part_in (tex_at text place) ≡ false
    → GoesOn text place ⊎ HoldsInner text place
