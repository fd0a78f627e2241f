-- Worked texts: where the tokens of modern C are cut.
use Rattle.std.proofs.Common.{◌≡◌, ℕ, List, [], ◌∷◌, codes, length, refl}
use Rattle.cw_rules.specs.declared.codes.Code.TheVariants as at
use Rattle.cw_rules.specs.declared.signs.Sign.TheVariants as signs
use Rattle.cw_rules.specs.declared.{tokens.Mode.Mode, tokens.TokKind.TokKind}
use Rattle.cw_rules.specs.declared.tokens.Mode.TheVariants as modes
use Rattle.cw_rules.specs.declared.tokens.TokKind.TheVariants as kinds
use Rattle.cw_rules.specs.Answers.{Answer, Token}
use Rattle.cw_lex.specs.Lexing.{tokens_of}

-- the tokens of answers, by their bytes and by their kinds
abbrev texts : List Answer → List (List ℕ)
texts [] = []
texts (Token t ∷ answers) = t.text ∷ texts answers
texts (_ ∷ answers) = texts answers

abbrev kinds_of : List Answer → List TokKind
kinds_of [] = []
kinds_of (Token t ∷ answers) = t.kind ∷ kinds_of answers
kinds_of (_ ∷ answers) = kinds_of answers

abbrev cut : List ℕ → List (List ℕ)
cut text = texts (tokens_of text 0 (length text) modes.CPart)

abbrev kinds_in : Mode → List ℕ → List TokKind
kinds_in mode text = kinds_of (tokens_of text 0 (length text) mode)

binary : cut (codes "0b1010'1010") ≡ codes "0b1010'1010" ∷ []
binary = refl

binary-then-decimal : cut (codes "0b12") ≡ codes "0b1" ∷ codes "2" ∷ []
binary-then-decimal = refl

no-binary : cut (codes "0b") ≡ codes "0" ∷ codes "b" ∷ []
no-binary = refl

hexadecimal-fraction : cut (codes "0x1.8p-3f") ≡ codes "0x1.8p-3f" ∷ []
hexadecimal-fraction = refl

binary-exponent : cut (codes "0x1p3") ≡ codes "0x1p3" ∷ []
binary-exponent = refl

fraction-without-digits : cut (codes "0x1.p3") ≡ codes "0x1.p3" ∷ []
fraction-without-digits = refl

no-hexadecimal : cut (codes "0x.8p1") ≡ codes "0" ∷ codes "x" ∷ codes ".8" ∷ codes "p1" ∷ []
no-hexadecimal = refl

no-exponent : cut (codes "0x1p") ≡ codes "0x1" ∷ codes "p" ∷ []
no-exponent = refl

no-exponent-behind-sign : cut (codes "0x1p+") ≡ codes "0x1" ∷ codes "p" ∷ codes "+" ∷ []
no-exponent-behind-sign = refl

dots-behind-hexadecimal : cut (codes "0x1..2") ≡ codes "0x1" ∷ codes "." ∷ codes ".2" ∷ []
dots-behind-hexadecimal = refl

two-dots : cut (codes "1..5") ≡ codes "1" ∷ codes "." ∷ codes ".5" ∷ []
two-dots = refl

ellipsis : cut (codes "1...5") ≡ codes "1" ∷ codes "..." ∷ codes "5" ∷ []
ellipsis = refl

dots-before-a-name : cut (codes "0..n") ≡ codes "0" ∷ codes "." ∷ codes "." ∷ codes "n" ∷ []
dots-before-a-name = refl

exponent-behind-a-dot : cut (codes "1.e5") ≡ codes "1.e5" ∷ []
exponent-behind-a-dot = refl

digits-apart : cut (codes "1'0.5'5e1'2") ≡ codes "1'0.5'5e1'2" ∷ []
digits-apart = refl

fraction-alone : cut (codes ".5'5") ≡ codes ".5'5" ∷ []
fraction-alone = refl

string-behind-digit : cut (codes "1'a'") ≡ codes "1" ∷ codes "'a'" ∷ []
string-behind-digit = refl

string-of-a-fraction : cut (codes "1'.5'") ≡ codes "1" ∷ codes "'.5'" ∷ []
string-of-a-fraction = refl

string-behind-a-dot : cut (codes "1.'5'") ≡ codes "1." ∷ codes "'5'" ∷ []
string-behind-a-dot = refl

hexadecimal-apart : cut (codes "0x1'f+1") ≡ codes "0x1'f" ∷ codes "+" ∷ codes "1" ∷ []
hexadecimal-apart = refl

wide : cut (codes "L\"x\"") ≡ codes "L\"x\"" ∷ []
wide = refl

utf-eight : cut (codes "u8'x'") ≡ codes "u8'x'" ∷ []
utf-eight = refl

a-blank-between : cut (codes "L \"x\"") ≡ codes "L" ∷ codes "\"x\"" ∷ []
a-blank-between = refl

no-prefix : cut (codes "uL\"x\"") ≡ codes "uL" ∷ codes "\"x\"" ∷ []
no-prefix = refl

suffix-before-a-prefix : cut (codes "1u8\"x\"") ≡ codes "1u" ∷ codes "8" ∷ codes "\"x\"" ∷ []
suffix-before-a-prefix = refl

question-and-colon : cut (codes "a?:b") ≡ codes "a" ∷ codes "?:" ∷ codes "b" ∷ []
question-and-colon = refl

question-colon-first : cut (codes "a?::b") ≡ codes "a" ∷ codes "?:" ∷ codes ":" ∷ codes "b" ∷ []
question-colon-first = refl

three-colons : cut (codes ":::") ≡ codes "::" ∷ codes ":" ∷ []
three-colons = refl

three-brackets : cut (codes "[[[") ≡ codes "[[" ∷ codes "[" ∷ []
three-brackets = refl

brackets-apart : cut (codes "a[b[c]]") ≡ codes "a" ∷ codes "[" ∷ codes "b" ∷ codes "[" ∷ codes "c" ∷ codes "]"
    ∷ codes "]" ∷ []
brackets-apart = refl

binary-suffix : cut (codes "0B1uL") ≡ codes "0B1uL" ∷ []
binary-suffix = refl

thousands : cut (codes "1'000'000u") ≡ codes "1'000'000u" ∷ []
thousands = refl

octal-apart : cut (codes "017'7") ≡ codes "017'7" ∷ []
octal-apart = refl

octal-behind-its-zero : cut (codes "0'17") ≡ codes "0'17" ∷ []
octal-behind-its-zero = refl

negative-exponent : cut (codes "0x1.8p-3") ≡ codes "0x1.8p-3" ∷ []
negative-exponent = refl

exponent-apart : cut (codes "0X1.P+1'0f") ≡ codes "0X1.P+1'0f" ∷ []
exponent-apart = refl

hexadecimal-suffix : cut (codes "0xFF'FFul") ≡ codes "0xFF'FFul" ∷ []
hexadecimal-suffix = refl

-- A prefix belongs to its string; behind a blank it is an identifier.
strings-are : kinds_in modes.CPart (codes "L\"x\" u8'x' u \"x\"") ≡
    kinds.Quoted ∷ kinds.Quoted ∷ kinds.Identifier ∷ kinds.Quoted ∷ []
strings-are = refl

-- What lies beyond the end of the scanned text doesn't count.
end-before-its-string : kinds_of (tokens_of (codes "L\"x\"") 0 1 modes.CPart) ≡ kinds.Identifier ∷ []
end-before-its-string = refl

-- A name in a head is no prefix.
head-of-a-macro : kinds_in modes.TexText (codes "@d L\"x\"") ≡
    kinds.Code at.Define ∷ kinds.Identifier ∷ kinds.Quoted ∷ []
head-of-a-macro = refl

head-of-a-format : kinds_in modes.TexText (codes "@f u8'x' int") ≡ kinds.Code at.Format ∷ kinds.Identifier ∷
    kinds.Quoted ∷ kinds.Identifier ∷ []
head-of-a-format = refl

signs-are : kinds_in modes.CPart (codes "a::b?:[[c]]")
    ≡ kinds.Identifier ∷ kinds.Sign signs.DoubleColon ∷ kinds.Identifier ∷ kinds.Sign signs.QuestionColon ∷ kinds.Sign
    signs.DoubleBracket ∷ kinds.Identifier ∷ kinds.Sign signs.RightBracket ∷ kinds.Sign signs.RightBracket ∷ []
signs-are = refl

-- Only `include` lets an include name follow.
an-include : cut (codes "#include <x>") ≡ codes "#" ∷ codes "include" ∷ codes "<x>" ∷ []
an-include = refl

an-embedded-file : cut (codes "#embed <x>") ≡ codes "#" ∷ codes "embed" ∷ codes "<" ∷ codes "x" ∷ codes ">" ∷ []
an-embedded-file = refl
