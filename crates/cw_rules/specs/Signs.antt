-- The signs of C and their spellings. Of the signs that fit at a place the longest is taken.
use Rattle.std.specs.Prelude.{ℕ, Bool, ◌&&◌, nat_lt, List, [], ◌∷◌, Option, Some, None, codes, length, if◌then◌else◌}
use Rattle.cw_rules.specs.declared.signs.Sign.{Sign}
use Rattle.cw_rules.specs.declared.signs.Sign.TheVariants.{Slash, Dot, Less, Greater, Bar, Assign, Caret, Percent}
use Rattle.cw_rules.specs.declared.signs.Sign.TheVariants.{Arrow, ShiftLeft, ShiftRight, Equal, NotEqual, AtMost}
use Rattle.cw_rules.specs.declared.signs.Sign.TheVariants.{AtLeast, AndAnd, OrOr, Not, Tilde, PlusPlus, MinusMinus}
use Rattle.cw_rules.specs.declared.signs.Sign.TheVariants.{Plus, Minus, Hash, Star, Ampersand, Question, LeftParen}
use Rattle.cw_rules.specs.declared.signs.Sign.TheVariants.{LeftBracket, RightParen, RightBracket, LeftBrace, RightBrace}
use Rattle.cw_rules.specs.declared.signs.Sign.TheVariants.{Comma, Semicolon, Colon, Ellipsis, DoubleColon}
use Rattle.cw_rules.specs.declared.signs.Sign.TheVariants.{QuestionColon, DoubleBracket}
use Rattle.cw_rules.specs.Bytes.{begins_with}

abbrev pub spelling : Sign → List ℕ
spelling Slash = codes "/"
spelling Dot = codes "."
spelling Less = codes "<"
spelling Greater = codes ">"
spelling Bar = codes "|"
spelling Assign = codes "="
spelling Caret = codes "^"
spelling Percent = codes "%"
spelling Arrow = codes "->"
spelling ShiftLeft = codes "<<"
spelling ShiftRight = codes ">>"
spelling Equal = codes "=="
spelling NotEqual = codes "!="
spelling AtMost = codes "<="
spelling AtLeast = codes ">="
spelling AndAnd = codes "&&"
spelling OrOr = codes "||"
spelling Not = codes "!"
spelling Tilde = codes "~"
spelling PlusPlus = codes "++"
spelling MinusMinus = codes "--"
spelling Plus = codes "+"
spelling Minus = codes "-"
spelling Hash = codes "#"
spelling Star = codes "*"
spelling Ampersand = codes "&"
spelling Question = codes "?"
spelling LeftParen = codes "("
spelling LeftBracket = codes "["
spelling RightParen = codes ")"
spelling RightBracket = codes "]"
spelling LeftBrace = codes "{"
spelling RightBrace = codes "}"
spelling Comma = codes ","
spelling Semicolon = codes ";"
spelling Colon = codes ":"
spelling Ellipsis = codes "..."
spelling DoubleColon = codes "::"
spelling QuestionColon = codes "?:"
spelling DoubleBracket = codes "[["

abbrev pub all_signs : List Sign
all_signs =
    Slash ∷ Dot ∷ Less ∷ Greater ∷ Bar ∷ Assign ∷ Caret ∷ Percent ∷ Arrow ∷ ShiftLeft ∷ ShiftRight ∷ Equal ∷ NotEqual ∷
    AtMost ∷ AtLeast ∷ AndAnd ∷ OrOr ∷ Not ∷ Tilde ∷ PlusPlus ∷ MinusMinus ∷ Plus ∷ Minus ∷ Hash ∷ Star ∷ Ampersand ∷
    Question ∷ LeftParen ∷ LeftBracket ∷ RightParen ∷ RightBracket ∷ LeftBrace ∷ RightBrace ∷ Comma ∷ Semicolon ∷
    Colon ∷ Ellipsis ∷ DoubleColon ∷ QuestionColon ∷ DoubleBracket ∷ []

-- this sign, where it fits and is longer than the other
abbrev pub longer : Bool → Sign → Option Sign → Option Sign
longer fits sign None = if fits then Some sign else None
longer fits sign (Some other) =
    if fits && nat_lt (length (spelling other)) (length (spelling sign)) then Some sign else Some other

-- the longest of these signs that the bytes begin with
abbrev pub longest : List Sign → List ℕ → Option Sign
longest [] bytes = None
longest (sign ∷ signs) bytes = longer (begins_with (spelling sign) bytes) sign (longest signs bytes)
