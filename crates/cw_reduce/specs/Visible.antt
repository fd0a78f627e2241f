-- The tokens of a text that its translation shows: all that make a scrap or stand in a comment, but for the codes
-- that only lay out and the end of a `#` line.
use Rattle.std.specs.Prelude.{ℕ, Bool, true, false, List, [], ◌∷◌, ◌++◌, map}
use Rattle.cw_base.specs.Conditions.{list_if}
use Rattle.cw_rules.specs.Answers.{Answer, Seen}
use Rattle.cw_rules.specs.declared.codes.Code.{Code}
use Rattle.cw_rules.specs.declared.codes.Code.TheVariants as code
use Rattle.cw_rules.specs.declared.tokens.TokKind.{TokKind}
use Rattle.cw_rules.specs.declared.tokens.TokKind.TheVariants as kind
use Rattle.cw_lex.specs.Heads.{Head, Headless, Macro, Format, Silent, Named, Headed, headed}
use Rattle.cw_lex.specs.Nest.{Nest, End, Leaf, Group, nest}

abbrev pub is_shown_code : Code → Bool
is_shown_code code.TexBox = true
is_shown_code code.Verbatim = true
is_shown_code code.Quote = true
is_shown_code code.Join = true
is_shown_code code.HeaderFile = true
is_shown_code _ = false

abbrev pub is_shown : TokKind → Bool
is_shown kind.Identifier = true
is_shown kind.Constant = true
is_shown kind.Quoted = true
is_shown kind.IncludeName = true
is_shown (kind.Sign s) = true
is_shown kind.HashLine = true
is_shown kind.OtherByte = true
is_shown (kind.Code c) = is_shown_code c
is_shown kind.Text = true
is_shown _ = false

-- a comment has a number of its own, that of its first byte
abbrev pub is_comment : TokKind → Bool
is_comment kind.LongComment = true
is_comment kind.ShortComment = true
is_comment _ = false

-- ## Whole texts

-- A section name is shown where it stands for something.
abbrev pub shown_token : (ℕ → Bool) → TokKind → ℕ → List ℕ
shown_token is_named (kind.Code code.SectionName) number = list_if (is_named number) (number ∷ [])
shown_token is_named (kind.Code code.FileName) number = list_if (is_named number) (number ∷ [])
shown_token is_named k number = list_if (is_shown k) (number ∷ [])

-- A comment is shown by its number, and then what stands in it.
abbrev pub shown_in : (ℕ → Bool) → Nest → List ℕ
shown_in is_named End = []
shown_in is_named (Leaf token rest) = shown_token is_named token.kind token.span.start ++ shown_in is_named rest
shown_in is_named (Group token inner rest) =
    list_if (is_comment token.kind) (token.span.start ∷ []) ++ shown_in is_named inner ++ shown_in is_named rest

-- All words of a head are shown, but for those of a definition that prints nothing.
abbrev pub starts : List Seen → List ℕ
starts words = map (λ word. word.span.start) words

abbrev pub shown_head : (ℕ → Bool) → Head → List ℕ
shown_head is_named Headless = []
shown_head is_named (Macro number words) = number ∷ starts words
shown_head is_named (Format number words) = number ∷ starts words
shown_head is_named (Silent words) = []
shown_head is_named (Named number sign) =
    list_if (is_named number) (number ∷ []) ++ list_if (is_named number) (sign ∷ [])

abbrev pub shown_headed : (ℕ → Bool) → Headed → List ℕ
shown_headed is_named h = shown_head is_named h.head ++ shown_in is_named h.rest

-- The numbers of the visible tokens of a text of which these are the scanner's answers, in order. The number of a token
-- is the place of its first byte.
abbrev pub shown : (ℕ → Bool) → List Answer → List ℕ
shown is_named answers = shown_headed is_named (headed (nest answers))
