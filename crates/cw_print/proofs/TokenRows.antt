-- What each kind of token prints, on worked texts.
use Rattle.cw_print.proofs.Terms.{◌≡◌, [], codes, refl, comment_piece, piece_of, closing_braces}
use Rattle.cw_print.specs.Tokens.{token_bytes, sign_macro}
use Rattle.cw_rules.specs.declared.codes.Code.TheVariants as code
use Rattle.cw_rules.specs.declared.signs.Sign.TheVariants as sign
use Rattle.cw_rules.specs.declared.tokens.TokKind.TheVariants as kind

-- constants
constants : (token_bytes kind.Constant (codes "120") ≡ codes "\\T{120}")
    × (token_bytes kind.Constant (codes "0") ≡ codes "\\T{0}")
    × (token_bytes kind.Constant (codes "0X1fuL") ≡ codes "\\T{\\^1f\\$U\\$L}")
    × (token_bytes kind.Constant (codes "012.5") ≡ codes "\\T{\\~12.5}")
    × (token_bytes kind.Constant (codes "0.5f") ≡ codes "\\T{0.5\\$F}")
    × (token_bytes kind.Constant (codes "1.e-5l") ≡ codes "\\T{1.\\_-5\\$L}")
    × (token_bytes kind.Constant (codes "0b1010'1010") ≡ codes "\\T{\\\\1010\\ 1010}")
    × (token_bytes kind.Constant (codes "0B1uL") ≡ codes "\\T{\\\\1\\$U\\$L}")
    × (token_bytes kind.Constant (codes "1'000'000u") ≡ codes "\\T{1\\ 000\\ 000\\$U}")
    × (token_bytes kind.Constant (codes "1'0.5'5e1'2f") ≡ codes "\\T{1\\ 0.5\\ 5\\_1\\ 2\\$F}")
    × (token_bytes kind.Constant (codes "017'7") ≡ codes "\\T{\\~17\\ 7}")
    × (token_bytes kind.Constant (codes "0'17") ≡ codes "\\T{0\\ 17}")
    × (token_bytes kind.Constant (codes "0x1.8p-3") ≡ codes "\\T{\\^1.8p-3}")
    × (token_bytes kind.Constant (codes "0X1.P+1'0f") ≡ codes "\\T{\\^1.P+1\\ 0\\$F}")
    × (token_bytes kind.Constant (codes "0xFF'FFul") ≡ codes "\\T{\\^FF\\ FF\\$U\\$L}")
constants = (refl, refl, refl, refl, refl, refl, refl, refl, refl, refl, refl, refl, refl, refl, refl)

-- strings, include names and other bytes
strings : (token_bytes kind.Quoted (codes "\"a b@@%\\n\"") ≡ codes "\\.{\"a\\ b@\\%\\\\n\"}")
    × (token_bytes kind.Quoted (codes "\"a\\\nb\"") ≡ codes "\\.{\"ab\"}")
    × (token_bytes kind.Quoted (codes "\"\\\\\nb\"") ≡ codes "\\.{\"\\\\b\"}")
    × (token_bytes kind.Quoted (codes "\"\\@@\"") ≡ codes "\\.{\"\\\\@@\"}")
    × (token_bytes kind.Quoted (codes "L\"x\"") ≡ codes "\\.{L\"x\"}")
    × (token_bytes kind.Quoted (codes "u8'x'") ≡ codes "\\.{u8'x'}")
strings = (refl, refl, refl, refl, refl, refl)

-- a string of 20 bytes stands whole, and of one more the last is divided from the others
long_strings : (token_bytes kind.Quoted (codes "\"012345678901234567\"") ≡ codes "\\.{\"012345678901234567\"}")
    × (token_bytes kind.Quoted (codes "\"0123456789012345678\"") ≡ codes "\\.{\"0123456789012345678}\\)\\.{\"}")
    × (token_bytes kind.Quoted (codes "\"012345678901234567\\n1\"") ≡ codes "\\.{\"012345678901234567\\\\n}\\)\\.{1\"}")
    × (token_bytes kind.Quoted (codes "\"0123456789012345678\\n1\"")
    ≡ codes "\\.{\"0123456789012345678}\\)\\.{\\\\n1\"}")
    × (token_bytes kind.Quoted (codes "u8\"012345678901234567890123456789012345678\"")
    ≡ codes "\\.{u8\"01234567890123456}\\)\\.{78901234567890123456}\\)\\.{78\"}")
long_strings = (refl, refl, refl, refl, refl)

-- what prints nothing doesn't count, and two bytes that print one count as one
quoted_bytes : (token_bytes kind.Quoted (codes "\"0123456789@@1234567\\\n8\"")
    ≡ codes "\\.{\"0123456789@12345678}\\)\\.{\"}")
    × (token_bytes (kind.Code code.Quote) (codes "@'0123456789012345678'")
    ≡ codes "\\.{@'012345678901234567}\\)\\.{8'}")
    × (token_bytes kind.IncludeName (codes "<a@@3456789012345678\\>") ≡ codes "\\.{<a@3456789012345678\\\\>}")
    × (token_bytes kind.IncludeName (codes "<a_b@@.h>") ≡ codes "\\.{<a\\_b@.h>}")
    × (token_bytes kind.OtherByte (codes "\\") ≡ codes "\\.{\\\\}")
quoted_bytes = (refl, refl, refl, refl, refl)

-- codes
texts_of_codes : (token_bytes (kind.Code code.Verbatim) (codes "@=a_@@b@>") ≡ codes "\\vb{a\\_@b}")
    × (token_bytes (kind.Code code.Verbatim) (codes "@=a_") ≡ codes "\\vb{a\\_}")
    × (token_bytes (kind.Code code.TexBox) (codes "@t$\\alpha$@>") ≡ codes "\\hbox{$\\alpha$}")
    × (token_bytes (kind.Code code.Quote) (codes "@'\\'a'") ≡ codes "\\.{@'\\\\'a'}")
    × (token_bytes (kind.Code code.Join) (codes "@&") ≡ codes "\\J")
    × (token_bytes (kind.Code code.HeaderFile) (codes "@h") ≡ codes "\\ATH")
    × (token_bytes (kind.Code code.Define) (codes "@d") ≡ codes "\\D")
    × (token_bytes (kind.Code code.Format) (codes "@f") ≡ codes "\\F")
texts_of_codes = (refl, refl, refl, refl, refl, refl, refl, refl)

-- codes that are made of controls alone
codes_of_controls : (token_bytes (kind.Code code.ThinSpace) (codes "@,") ≡ [])
    × (token_bytes (kind.Code code.LineBreak) (codes "@/") ≡ [])
    × (token_bytes (kind.Code code.InvisibleSemicolon) (codes "@;") ≡ [])
    × (token_bytes (kind.Code code.BeginArgument) (codes "@[") ≡ [])
codes_of_controls = (refl, refl, refl, refl)

-- signs
signs : (token_bytes (kind.Sign sign.Slash) (codes "/") ≡ codes "/")
    × (token_bytes (kind.Sign sign.Bar) (codes "|") ≡ codes "\\OR")
    × (sign_macro sign.Assign ≡ codes "\\K")
    × (sign_macro sign.Arrow ≡ codes "\\MG")
    × (sign_macro sign.AtMost ≡ codes "\\Z")
    × (sign_macro sign.OrOr ≡ codes "\\V")
    × (sign_macro sign.Tilde ≡ codes "\\CM")
    × (sign_macro sign.PlusPlus ≡ codes "\\PP")
    × (sign_macro sign.Hash ≡ codes "\\#")
    × (sign_macro sign.Plus ≡ codes "+")
    × (sign_macro sign.Ampersand ≡ codes "\\AND")
    × (sign_macro sign.Star ≡ codes "*")
signs = (refl, refl, refl, refl, refl, refl, refl, refl, refl, refl, refl, refl)

more_signs : (sign_macro sign.Question ≡ codes "\\?")
    × (sign_macro sign.LeftBrace ≡ codes "\\{")
    × (sign_macro sign.Semicolon ≡ codes ";")
    × (sign_macro sign.Ellipsis ≡ codes "\\,\\ldots\\,")
    × (token_bytes (kind.Sign sign.DoubleColon) (codes "::") ≡ codes "\\DC")
    × (sign_macro sign.QuestionColon ≡ codes "\\?:")
    × (sign_macro sign.DoubleBracket ≡ codes "[[")
more_signs = (refl, refl, refl, refl, refl, refl, refl)

-- lines of the preprocessor
hash_line : token_bytes kind.HashLine (codes "#") ≡ codes "\\8\\#"
hash_line = refl

-- comments
comments : (token_bytes kind.LongComment (codes "/*") ≡ codes "\\C{")
    × (token_bytes kind.ShortComment (codes "//") ≡ codes "\\SHC{")
    × (comment_piece (codes "a {@@b}}\nc@d \\{") 0 ≡ piece_of (codes "a {@b} cd \\{") 0)
    × (comment_piece (codes "x{y") 1 ≡ piece_of (codes "x{y") 2)
    × (comment_piece (codes "a\\\nb\\@@") 0 ≡ piece_of (codes "a\\ b\\@") 0)
    × (comment_piece (codes " x \\") 0 ≡ piece_of (codes " x \\ ") 0)
    × (comment_piece (codes " x \\\\") 0 ≡ piece_of (codes " x \\\\") 0) × (closing_braces 2 ≡ codes "}}}")
comments = (refl, refl, refl, refl, refl, refl, refl, refl)
