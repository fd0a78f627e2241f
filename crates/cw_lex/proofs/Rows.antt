-- Worked texts: what the scanner's definition gives for them.
use Rattle.std.proofs.Common.{◌≡◌, ℕ, zero, suc, List, [], ◌∷◌, ◌++◌, Some, None, codes, length, take, drop, refl}
use Rattle.cw_base.specs.declared.notes.NoteKind.{NoteKind}
use Rattle.cw_base.specs.declared.notes.NoteKind.TheVariants as notes
use Rattle.cw_rules.specs.declared.codes.Code.TheVariants as at
use Rattle.cw_rules.specs.declared.signs.Sign.TheVariants as signs
use Rattle.cw_rules.specs.declared.{tokens.Mode.Mode, tokens.TokKind.TokKind}
use Rattle.cw_rules.specs.declared.tokens.Mode.TheVariants as modes
use Rattle.cw_rules.specs.declared.tokens.TokKind.TheVariants as kinds
use Rattle.cw_rules.specs.Answers.{Answer, Token, Begin, Finish, Note}
use Rattle.cw_lex.specs.{Lexing.tokens_of, Parts.closing_bar_from}

-- an answer: a token, beginning or end with its kind and span, or a note with its place
data Shown : Type 0 where
  token : (kind : TokKind) → (start end : ℕ) → Shown
  begin : (kind : TokKind) → (start end : ℕ) → Shown
  finish : (kind : TokKind) → (start end : ℕ) → Shown
  note : (kind : NoteKind) → (place : ℕ) → Shown

abbrev shown : List Answer → List Shown
shown [] = []
shown (Token t ∷ answers) = token t.kind t.span.start t.span.end ∷ shown answers
shown (Begin t ∷ answers) = begin t.kind t.span.start t.span.end ∷ shown answers
shown (Finish t ∷ answers) = finish t.kind t.span.start t.span.end ∷ shown answers
shown (Note kind place ∷ answers) = note kind place ∷ shown answers

abbrev of : Mode → List ℕ → List Shown
of mode text = shown (tokens_of text 0 (length text) mode)

-- Letters, then letters and digits.
identifiers : of modes.CPart (codes "a _b1 $ int") ≡ token kinds.Identifier 0 1 ∷ token kinds.Identifier 2 5 ∷ token
    kinds.Identifier 6 7 ∷ token kinds.Identifier 8 11 ∷ []
identifiers = refl

-- Each form of a constant; an exponent and `0x` need a digit.
constants : of modes.CPart (codes "0x1fL 012 1. .5e-3 1e 0x 2.5E+1f") ≡ token kinds.Constant 0 5 ∷ token kinds.Constant
    6 9 ∷ token kinds.Constant 10 12 ∷ token kinds.Constant 13 18 ∷ token kinds.Constant 19 20 ∷ token kinds.Identifier
    20 21 ∷ token kinds.Constant 22 23 ∷ token kinds.Identifier 23 24 ∷ token kinds.Constant 25 32 ∷ []
constants = refl

-- A backslash takes the next byte along; a single `@` is noted.
strings : of modes.CPart (codes "\"a\\\"b\" '@@' \"x@y\" @'c'") ≡
    token kinds.Quoted 0 6 ∷ token kinds.Quoted 7 11 ∷ token kinds.Quoted 12 17 ∷ note notes.AtInString 14 ∷
    token (kinds.Code at.Quote) 18 22 ∷ []
strings = refl

-- A line's end closes a string, with a note.
string-ends : of modes.CPart (codes "\"ab" ++ (10 ∷ []) ++ codes "c") ≡
    token kinds.Quoted 0 3 ∷ note notes.StringUnended 3 ∷ token kinds.Identifier 4 5 ∷ []
string-ends = refl

-- The longest sign at each place.
longest-signs : of modes.CPart (codes "...->a<<=b+++c||d") ≡
    token (kinds.Sign signs.Ellipsis) 0 3 ∷ token (kinds.Sign signs.Arrow) 3 5 ∷ token kinds.Identifier 5 6 ∷
    token (kinds.Sign signs.ShiftLeft) 6 8 ∷ token (kinds.Sign signs.Assign) 8 9 ∷ token kinds.Identifier 9 10 ∷
    token (kinds.Sign signs.PlusPlus) 10 12 ∷ token (kinds.Sign signs.Plus) 12 13 ∷ token kinds.Identifier 13 14 ∷
    token (kinds.Sign signs.OrOr) 14 16 ∷ token kinds.Identifier 16 17 ∷ []
longest-signs = refl

-- A comment in inner text, a brace that is protected and one that is noted, a dropped `@`.
comments : of modes.CPart (codes "/* a |b/*c*/| \\} } @ */")
    ≡ begin kinds.LongComment 0 2 ∷ token kinds.Text 2 5 ∷ begin kinds.InnerText 5 6 ∷ token kinds.Identifier 6 7
    ∷ begin kinds.LongComment 7 9 ∷ token kinds.Text 9 10 ∷ finish kinds.LongComment 10 12 ∷ finish kinds.InnerText 12
    13 ∷ token kinds.Text 13 19 ∷ note notes.ExtraBrace 17 ∷ finish kinds.LongComment 19 19 ∷ note notes.CommentUnended
    0 ∷ token (kinds.Code at.Section) 19 21 ∷ token kinds.Text 21 23 ∷ []
comments = refl

-- A line's end ends a short comment.
short-comment : of modes.CPart (codes "// {x" ++ (10 ∷ []) ++ codes "y") ≡ begin kinds.ShortComment 0 2 ∷ token
    kinds.Text 2 5 ∷ finish kinds.ShortComment 5 5 ∷ note notes.MissingBrace 5 ∷ token kinds.Identifier 6 7 ∷ []
short-comment = refl

-- A `#` line with an include name; elsewhere `#` is a sign.
hash-line : of modes.CPart (codes "#include <a.h>" ++ (10 ∷ []) ++ codes "x#y" ++ (10 ∷ []))
    ≡ token kinds.HashLine 0 1 ∷ token kinds.Identifier 1 8 ∷ token kinds.IncludeName 9 14 ∷ token kinds.HashLineEnd 14
    15 ∷ token kinds.Identifier 15 16 ∷ token (kinds.Sign signs.Hash) 16 17 ∷ token kinds.Identifier 17 18 ∷ []
hash-line = refl

-- A backslash at a line's end is white space of a `#` line.
hash-line-goes-on : of modes.CPart (codes "#a \\" ++ (10 ∷ []) ++ codes " b" ++ (10 ∷ []) ++ codes "c") ≡
    token kinds.HashLine 0 1 ∷ token kinds.Identifier 1 2 ∷ token kinds.Identifier 6 7 ∷
    token kinds.HashLineEnd 7 8 ∷ token kinds.Identifier 8 9 ∷ []
hash-line-goes-on = refl

-- Codes of C text, one that is noted and one that is unknown.
codes-of-c : of modes.CPart (codes "@d@^x@>@q y@>@,@!@3") ≡ token kinds.Dropped 0 2 ∷ note notes.CodeInCText 0 ∷ token
    (kinds.Code at.Roman) 2 7 ∷ token (kinds.Code at.Ignored) 7 13 ∷ token (kinds.Code at.ThinSpace) 13 15 ∷ token
    (kinds.Code at.Underline) 15 17 ∷ token kinds.Dropped 17 19 ∷ note notes.UnknownCode 17 ∷ []
codes-of-c = refl

-- Section names of both kinds, and two that are noted.
names : of modes.CPart (codes "@<A b@>@(f@>@< @>@<...@>")
    ≡ token (kinds.Code at.SectionName) 0 7 ∷ token (kinds.Code at.FileName) 7 12 ∷ token (kinds.Code at.SectionName) 12
    17 ∷ note notes.NameEmpty 12 ∷ token (kinds.Code at.SectionName) 17 24 ∷ note notes.NameEmpty 17 ∷ []
names = refl

-- A double bar is the operator; the end cuts inner text.
inner : of modes.TexText (codes "|a||b| |c") ≡ begin kinds.InnerText 0 1 ∷ token kinds.Identifier 1 2 ∷ token
    (kinds.Sign signs.OrOr) 2 4 ∷ token kinds.Identifier 4 5 ∷ finish kinds.InnerText 5 6 ∷ token kinds.Text 6 7 ∷ begin
    kinds.InnerText 7 8 ∷ token kinds.Identifier 8 9 ∷ finish kinds.InnerText 9 9 ∷ note notes.BarMissing 8 ∷ []
inner = refl

-- Limbo: `@t` is noted, and `@s` takes two names.
limbo : of modes.Limbo (codes "a@@b@q x@>c@t@s d int e")
    ≡ token kinds.Text 0 1 ∷ token (kinds.Code at.At) 1 3 ∷ token kinds.Text 3 4 ∷ token (kinds.Code at.Ignored) 4 10
    ∷ token kinds.Text 10 11 ∷ token kinds.Dropped 11 13 ∷ note notes.CodeInLimbo 11 ∷ token (kinds.Code
    at.SilentFormat) 13 15 ∷ token kinds.Identifier 16 17 ∷ token kinds.Identifier 18 21 ∷ token kinds.Text 21 23 ∷ []
limbo = refl

-- A starred section, an entry, a dropped box, a citation and a head.
tex : of modes.TexText (codes "@*2 A@^r@>@t b@>@<N@>@<N@>=") ≡ token (kinds.Code at.StarredSection) 0 4 ∷ token
    kinds.Text 4 5 ∷ token (kinds.Code at.Roman) 5 10 ∷ token kinds.Dropped 10 16 ∷ note notes.CodeInTexText 10 ∷ token
    (kinds.Code at.SectionName) 16 21 ∷ token (kinds.Code at.SectionName) 21 26 ∷ token kinds.HeadSign 26 27 ∷ []
tex = refl

-- A macro with parameters, and an improper one.
macro : of modes.TexText (codes "@d m(a,...) b @d 3") ≡
    token (kinds.Code at.Define) 0 2 ∷ token kinds.Identifier 3 4 ∷ token (kinds.Sign signs.LeftParen) 4 5 ∷
    token kinds.Identifier 5 6 ∷ token (kinds.Sign signs.Comma) 6 7 ∷ token (kinds.Sign signs.Ellipsis) 7 10 ∷
    token (kinds.Sign signs.RightParen) 10 11 ∷ token kinds.Identifier 12 13 ∷ token (kinds.Code at.Define) 14 16 ∷
    note notes.ImproperMacro 14 ∷ token kinds.Constant 17 18 ∷ []
macro = refl

-- A format, and an improper one.
format : of modes.TexText (codes "@f a int @f b") ≡
    token (kinds.Code at.Format) 0 2 ∷ token kinds.Identifier 3 4 ∷ token kinds.Identifier 5 8 ∷
    token (kinds.Code at.Format) 9 11 ∷ token kinds.Identifier 12 13 ∷ note notes.ImproperFormat 9 ∷ []
format = refl

-- A section code ends all that is open.
section : of modes.CPart (codes "/* |a @ b") ≡ begin kinds.LongComment 0 2 ∷ token kinds.Text 2 3 ∷ begin
    kinds.InnerText 3 4 ∷ token kinds.Identifier 4 5 ∷ finish kinds.InnerText 6 6 ∷ note notes.BarMissing 6 ∷ finish
    kinds.LongComment 6 6 ∷ note notes.CommentUnended 0 ∷ token (kinds.Code at.Section) 6 8 ∷ token kinds.Text 8 9 ∷ []
section = refl

-- A line's end in a string goes on behind a backslash; a backslash elsewhere is a byte of its own.
string-goes-on : of modes.CPart (codes "\"a\\" ++ (10 ∷ []) ++ codes "b\" \\")
    ≡ token kinds.Quoted 0 6 ∷ token kinds.OtherByte 7 8 ∷ []
string-goes-on = refl

-- Only directly behind the word, on its line: include names.
include-names : of modes.CPart
    (codes "#include/**/<a>" ++ (10 ∷ []) ++ codes "#include<a" ++ (10 ∷ []) ++ codes "include<a>")
    ≡ token kinds.HashLine 0 1 ∷ token kinds.Identifier 1 8 ∷ begin kinds.LongComment 8 10 ∷ finish kinds.LongComment 10
    12 ∷ token (kinds.Sign signs.Less) 12 13 ∷ token kinds.Identifier 13 14 ∷ token (kinds.Sign signs.Greater) 14 15
    ∷ token kinds.HashLineEnd 15 16 ∷ token kinds.HashLine 16 17 ∷ token kinds.Identifier 17 24 ∷ token (kinds.Sign
    signs.Less) 24 25 ∷ token kinds.Identifier 25 26 ∷ token kinds.HashLineEnd 26 27 ∷ token kinds.Identifier 27 34
    ∷ token (kinds.Sign signs.Less) 34 35 ∷ token kinds.Identifier 35 36 ∷ token (kinds.Sign signs.Greater) 36 37 ∷ []
include-names = refl

-- Behind a comment that a line's end ends, an `include` in its inner text lets no include name follow.
include-in-comment : of modes.CPart (codes "#//|include\\" ++ (10 ∷ []) ++ codes "<a>") ≡
    token kinds.HashLine 0 1 ∷ begin kinds.ShortComment 1 3 ∷ begin kinds.InnerText 3 4 ∷ token kinds.Identifier 4 11 ∷
    finish kinds.InnerText 12 12 ∷ note notes.BarMissing 12 ∷ finish kinds.ShortComment 12 12 ∷
    token (kinds.Sign signs.Less) 13 14 ∷ token kinds.Identifier 14 15 ∷ token (kinds.Sign signs.Greater) 15 16 ∷ []
include-in-comment = refl

-- So it is in a long comment around that comment.
include-in-comments : of modes.CPart (codes "#/*|//|include" ++ (10 ∷ []) ++ codes "<a>|*/") ≡
    token kinds.HashLine 0 1 ∷ begin kinds.LongComment 1 3 ∷ begin kinds.InnerText 3 4 ∷ begin kinds.ShortComment 4 6 ∷
    begin kinds.InnerText 6 7 ∷ token kinds.Identifier 7 14 ∷ finish kinds.InnerText 14 14 ∷ note notes.BarMissing 14 ∷
    finish kinds.ShortComment 14 14 ∷ token (kinds.Sign signs.Less) 15 16 ∷ token kinds.Identifier 16 17 ∷
    token (kinds.Sign signs.Greater) 17 18 ∷ finish kinds.InnerText 18 19 ∷ finish kinds.LongComment 19 21 ∷ []
include-in-comments = refl

-- A short comment ends behind a backslash too, and the `#` line around it goes on; so it does over a long comment's
-- line end.
hash-line-comments : of modes.CPart (codes "#//\\" ++ (10 ∷ []) ++ codes "/*" ++ (10 ∷ []) ++ codes "*/a" ++ (10 ∷ [])
    ++ codes "b") ≡ token kinds.HashLine 0 1 ∷ begin kinds.ShortComment 1 3 ∷ token kinds.Text 3 4 ∷ finish
    kinds.ShortComment 4 4 ∷ begin kinds.LongComment 5 7 ∷ token kinds.Text 7 8 ∷ finish kinds.LongComment 8 10 ∷ token
    kinds.Identifier 10 11 ∷ token kinds.HashLineEnd 11 12 ∷ token kinds.Identifier 12 13 ∷ []
hash-line-comments = refl

-- In inner text `*/` is two signs; a line's end ends the short comments and the inner text in them.
inner-in-comments : of modes.CPart (codes "/*|*/|*///|//" ++ (10 ∷ []))
    ≡ begin kinds.LongComment 0 2 ∷ begin kinds.InnerText 2 3 ∷ token (kinds.Sign signs.Star) 3 4 ∷ token
    (kinds.Sign signs.Slash) 4 5 ∷ finish kinds.InnerText 5 6 ∷ finish kinds.LongComment 6 8 ∷ begin kinds.ShortComment
    8 10 ∷ begin kinds.InnerText 10 11 ∷ begin kinds.ShortComment 11 13 ∷ finish kinds.ShortComment 13 13 ∷ finish
    kinds.InnerText 13 13 ∷ note notes.BarMissing 13 ∷ finish kinds.ShortComment 13 13 ∷ []
inner-in-comments = refl

-- Depth 20 is inner text, depth 21 a byte of the comment.
abbrev nested : ℕ → List ℕ
nested zero = []
nested (suc n) = codes "/*|" ++ nested n

depth-20 : take 3 (drop 39 (of modes.CPart (nested 20 ++ codes "x"))) ≡
    begin kinds.InnerText 59 60 ∷ token kinds.Identifier 60 61 ∷ finish kinds.InnerText 61 61 ∷ []
depth-20 = refl

depth-21 : take 4 (drop 40 (of modes.CPart (nested 21 ++ codes "x*/"))) ≡
    begin kinds.LongComment 60 62 ∷ token kinds.Text 62 64 ∷ note notes.TooDeep 62 ∷ finish kinds.LongComment 64 66 ∷ []
depth-21 = refl

-- A name begins a C part where its sign stands behind it on its line.
heads : of modes.CPart (codes "@<a@> +=b@<c@>=") ≡ token (kinds.Code at.SectionName) 0 5 ∷ token kinds.HeadSign 6 8
    ∷ token kinds.Identifier 8 9 ∷ token (kinds.Code at.SectionName) 9 14 ∷ token (kinds.Sign signs.Assign) 14 15 ∷ []
heads = refl

no-head : of modes.TexText (codes "@<a@>" ++ (10 ∷ []) ++ codes "=") ≡ token (kinds.Code at.SectionName) 0 5
    ∷ token kinds.Text 5 7 ∷ []
no-head = refl

-- A definition ends at the next one, a comment in it doesn't; a C part may follow.
definitions : of modes.Definition (codes "/*@d*/@s a b@c") ≡ begin kinds.LongComment 0 2 ∷ token kinds.Text 2 4 ∷ note
    notes.AtInComment 2 ∷ finish kinds.LongComment 4 6 ∷ token (kinds.Code at.SilentFormat) 6 8 ∷ token kinds.Identifier
    9 10 ∷ token kinds.Identifier 11 12 ∷ token (kinds.Code at.Program) 12 14 ∷ []
definitions = refl

-- In TeX text two bars are an empty inner text; in limbo a bar is text, and a code that may not stand there is two
-- bytes.
bars : of modes.TexText (codes "\\||a") ≡ token kinds.Text 0 1 ∷ begin kinds.InnerText 1 2 ∷ finish kinds.InnerText 2 3
    ∷ token kinds.Text 3 4 ∷ []
bars = refl

limbo-codes : of modes.Limbo (codes "|@t x@>") ≡ token kinds.Text 0 1 ∷ token kinds.Dropped 1 3 ∷ note notes.CodeInLimbo
    1 ∷ token kinds.Text 3 5 ∷ token kinds.Dropped 5 7 ∷ note notes.CodeInLimbo 5 ∷ []
limbo-codes = refl

-- Behind white space a parenthesis is none of a macro's head.
no-parameters : of modes.TexText (codes "@d m (a)") ≡ token (kinds.Code at.Define) 0 2 ∷ token kinds.Identifier 3 4
    ∷ token (kinds.Sign signs.LeftParen) 5 6 ∷ token kinds.Identifier 6 7 ∷ token (kinds.Sign signs.RightParen) 7 8 ∷ []
no-parameters = refl

-- Inner C text of TeX text ends at the first bar that stands alone, outside strings and comments with their inner
-- texts.
closed-first : closing_bar_from (codes "|a||b|c|d|") 1 ≡ Some 5
closed-first = refl

closed-outside : closing_bar_from (codes "|\"|\"@=|@>/*|a|{*/b|c") 1 ≡ Some 18
closed-outside = refl

closed-at-once : closing_bar_from (codes "||a|") 1 ≡ Some 1
closed-at-once = refl

-- It may go over lines, which end the short comments in it; a section code ends it, and so does the text's end.
closed-behind-line : closing_bar_from (codes "|a//|b" ++ (10 ∷ []) ++ codes "#x|") 1 ≡ Some 9
closed-behind-line = refl

closed-by-section : closing_bar_from (codes "|a@ |b|") 1 ≡ None
closed-by-section = refl

closed-by-end : closing_bar_from (codes "|a||") 1 ≡ None
closed-by-end = refl
