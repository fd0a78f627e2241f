-- What a sign prints, by its length.
use Rattle.std.specs.Prelude.{◌≡◌, [], ◌∷◌}
use Rattle.cw_base.specs.Bytes.{backslash}
use Rattle.cw_rules.specs.declared.signs.Sign.{Sign}
use Rattle.cw_print.specs.declared.signs.Form.{Form}
use Rattle.cw_print.specs.declared.signs.Form.TheVariants.{Itself, Letter, Longer}
use Rattle.cw_print.specs.Tokens.{sign_macro}

-- A byte, or a backslash and a letter.
abbrev pub HasForm : Sign → Form → Type 0
HasForm sign (Itself byte) = sign_macro sign ≡ byte ∷ []
HasForm sign (Letter letter) = sign_macro sign ≡ backslash ∷ letter ∷ []
HasForm sign Longer = Unit {0}
