-- What a token of C text prints, by its kind and its bytes.
use Rattle.std.specs.Prelude.{ℕ, List, [], ◌++◌, codes, drop}
use Rattle.cw_rules.specs.declared.codes.Code.{Code}
use Rattle.cw_rules.specs.declared.codes.Code.TheVariants as code
use Rattle.cw_rules.specs.declared.signs.Sign.{Sign}
use Rattle.cw_rules.specs.declared.signs.Sign.TheVariants as sign
use Rattle.cw_rules.specs.declared.tokens.TokKind.{TokKind}
use Rattle.cw_rules.specs.declared.tokens.TokKind.TheVariants as kind
use Rattle.cw_rules.specs.Signs.{spelling}
use Rattle.cw_print.specs.Escaping.{escaped, braced, typewriter}
use Rattle.cw_print.specs.Constants.{constant_bytes}
use Rattle.cw_rules.specs.ControlTexts.{text_behind_code}
use Rattle.cw_print.specs.Texts.{string_bytes, include_bytes, divided_typewriter}

-- A sign has a macro, or prints itself.
abbrev pub sign_macro : Sign → List ℕ
sign_macro sign.Bar = codes "\\OR"
sign_macro sign.Assign = codes "\\K"
sign_macro sign.Caret = codes "\\XOR"
sign_macro sign.Percent = codes "\\MOD"
sign_macro sign.Arrow = codes "\\MG"
sign_macro sign.ShiftLeft = codes "\\LL"
sign_macro sign.ShiftRight = codes "\\GG"
sign_macro sign.Equal = codes "\\E"
sign_macro sign.NotEqual = codes "\\I"
sign_macro sign.AtMost = codes "\\Z"
sign_macro sign.AtLeast = codes "\\G"
sign_macro sign.AndAnd = codes "\\W"
sign_macro sign.OrOr = codes "\\V"
sign_macro sign.Not = codes "\\R"
sign_macro sign.Tilde = codes "\\CM"
sign_macro sign.PlusPlus = codes "\\PP"
sign_macro sign.MinusMinus = codes "\\MM"
sign_macro sign.Hash = codes "\\#"
sign_macro sign.Ampersand = codes "\\AND"
sign_macro sign.Question = codes "\\?"
sign_macro sign.LeftBrace = codes "\\{"
sign_macro sign.RightBrace = codes "\\}"
sign_macro sign.Ellipsis = codes "\\,\\ldots\\,"
sign_macro sign.DoubleColon = codes "\\DC"
sign_macro sign.QuestionColon = codes "\\?:"
sign_macro other = spelling other

-- A code by its text, or by a macro. `@'` is a string with these two bytes before it.
abbrev pub code_bytes : Code → List ℕ → List ℕ
code_bytes code.Verbatim text = braced (codes "\\vb") (escaped (text_behind_code text))
code_bytes code.TexBox text = braced (codes "\\hbox") (text_behind_code text)
code_bytes code.Quote text = divided_typewriter (codes "@'" ++ string_bytes (drop 2 text))
code_bytes code.Join text = codes "\\J"
code_bytes code.HeaderFile text = codes "\\ATH"
code_bytes code.Define text = codes "\\D"
code_bytes code.Format text = codes "\\F"
code_bytes other text = []

-- The bytes of a token that are known from it alone. Pieces of comments, section names and the signs behind them print
-- by where they stand.
abbrev pub token_bytes : TokKind → List ℕ → List ℕ
token_bytes kind.Constant text = braced (codes "\\T") (constant_bytes text)
token_bytes kind.Quoted text = divided_typewriter (string_bytes text)
token_bytes kind.IncludeName text = divided_typewriter (include_bytes text)
token_bytes kind.OtherByte text = typewriter text
token_bytes (kind.Sign sign) text = sign_macro sign
token_bytes kind.HashLine text = codes "\\8\\#"
token_bytes (kind.Code code) text = code_bytes code text
token_bytes kind.LongComment text = codes "\\C{"
token_bytes kind.ShortComment text = codes "\\SHC{"
token_bytes other text = []
