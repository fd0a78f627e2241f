-- The models beside `specs/Limbo`.
use Rattle.std.specs.Prelude.{◌≡◌, ℕ, false, List, [], ◌∷◌}
use Rattle.cw_rules.specs.declared.tokens.Mode.TheVariants as modes
use Rattle.cw_rules.specs.Answers.{Answer, Token, Begin, Finish, Note}
use Rattle.cw_lex.specs.Lexing.{tokens_of}
use Rattle.cw_lex.specs.Nested.{is_section_kind}
use Rattle.cw_lex.specs.Limbo.{is_name_kind}

-- No section name stands among the answers before the first section code.
abbrev pub HasNoNames : List Answer → Type 0
HasNoNames [] = Unit {0}
HasNoNames (Token t ∷ answers) = is_section_kind t.kind ≡ false → (is_name_kind t.kind ≡ false) × HasNoNames answers
HasNoNames (Begin t ∷ answers) = HasNoNames answers
HasNoNames (Finish t ∷ answers) = HasNoNames answers
HasNoNames (Note note place ∷ answers) = HasNoNames answers

-- In limbo no section name stands.
abbrev pub LimboHasNoNames : Type 0
LimboHasNoNames = (text : List ℕ) (start end : ℕ) → HasNoNames (tokens_of text start end modes.Limbo)
