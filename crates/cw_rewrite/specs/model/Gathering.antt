-- The models beside `specs/Gathering`.
use Rattle.std.specs.Prelude.{ℕ, zero, suc, List, [], ◌∷◌, ◌++◌}
use Rattle.cw_base.specs.declared.mode.MathMode.{MathMode}
use Rattle.cw_base.specs.declared.mode.MathMode.TheVariants.{Math}
use Rattle.cw_trees.specs.declared.Control.TheVariants as control
use Rattle.cw_tokens.specs.declared.token.ListId.{ListId}
use Rattle.cw_tokens.specs.declared.token.Token.{Token}
use Rattle.cw_tokens.specs.declared.token.Token.TheVariants.{Control, «List» as ListOf}

-- the tokens of a scrap in text: a dollar at an end that is in math, and before each scrap but the first a blank
abbrev pub dollar : MathMode → List Token
dollar Math = Control control.Dollar ∷ []
dollar _ = []

abbrev pub text_tokens : MathMode → ListId → MathMode → List Token
text_tokens left list right = dollar left ++ ListOf list ∷ dollar right

abbrev pub separator : ℕ → List Token
separator zero = []
separator (suc i) = Control control.Blank ∷ []
