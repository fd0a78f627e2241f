-- Whose bytes stand in plain text.
use Rattle.std.specs.Prelude.{◌≡◌, ◌⊎◌, ℕ, true, List, [], ◌∷◌, All, codes, map}
use Rattle.std.specs.List.{list_all}
use Rattle.cw_base.specs.declared.flags.Flags.{Flags}
use Rattle.cw_base.specs.declared.span.Span.{Span}
use Rattle.cw_lex.specs.Lexing.{tokens_of}
use Rattle.cw_names.specs.Names.{Entry}
use Rattle.cw_plain.specs.Lines.{Ink, Own, Added}
use Rattle.cw_plain.specs.Pieces.{Piece, Word, Part, PlainSource, number_placed, outside}
use Rattle.cw_plain.specs.Plain.{plain_inks}
use Rattle.cw_plain.specs.Titles.{source_by}
use Rattle.cw_reduce.specs.WholeTexts.{IsCText, shown_in_text}
use Rattle.cw_rules.specs.Bytes.{is_in}
use Rattle.cw_rules.specs.declared.classes.Class.TheVariants.{White}
use Rattle.cw_rules.specs.declared.tokens.Mode.{Mode}
use Rattle.cw_secnames.specs.Kept.{SecName}
use Rattle.cw_secnames.specs.Uses.{NameUse}
use Rattle.cw_translator.specs.NameParts.{name_texts}
use Rattle.cw_translator.specs.Translating.{translated}
use Rattle.cw_trees.specs.Flat.{Item, flat}
use Rattle.cw_trees.specs.Tree.{Tree}

-- What stands in plain text of its tokens: all but the bytes of runs, the blanks between words, the bars around inner
-- texts of comments and the ends of comments.
abbrev pub own_inks : List Ink → List Ink
own_inks [] = []
own_inks (Own number bytes ∷ inks) = Own number bytes ∷ own_inks inks
own_inks (Added bytes ∷ inks) = own_inks inks

-- what the token of a number prints, wherever it stands
abbrev pub token_bytes : Piece → List ℕ
token_bytes (Word number bytes) = bytes
token_bytes (Part number bytes) = bytes
token_bytes piece = []

abbrev pub own_ink : PlainSource → ℕ → Ink
own_ink s number = Own number (token_bytes (number_placed s number outside).piece)

-- What may be added: blanks and line ends, a bar, and the end of a comment.
abbrev pub MayBeAdded : List ℕ → Type 0
MayBeAdded bytes = (list_all (λ byte. is_in White byte) bytes ≡ true) ⊎ ((bytes ≡ codes "|") ⊎ (bytes ≡ codes "*/"))

abbrev pub AddsLittle : Ink → Type 0
AddsLittle (Own number bytes) = Unit {0}
AddsLittle (Added bytes) = MayBeAdded bytes

-- A C text over these section names and their uses: what it is made plain from, and the tree of its translation.
abbrev pub text_source : List SecName → List NameUse → List ℕ → Span → Mode → PlainSource
text_source kept uses text span mode = source_by (tokens_of text span.start span.«end» mode) kept uses

abbrev pub text_tree : Flags → List SecName → List NameUse → List ℕ → Span → Mode → List Entry → List ℕ → Tree
text_tree flags kept uses text span mode names marks =
    (translated flags (name_texts kept uses) (tokens_of text span.start span.«end» mode) names marks).tree

-- The plain text of each C text's translation has the bytes of each token that is shown, once and in order, and of no
-- other token.
abbrev pub PlainHasEachToken : Type 0
PlainHasEachToken = (flags : Flags) (kept : List SecName) (uses : List NameUse) (text : List ℕ) (span : Span)
    (mode : Mode) (names : List Entry) (marks : List ℕ) → IsCText text span mode
    → own_inks (plain_inks (text_source kept uses text span mode)
    (flat (text_tree flags kept uses text span mode names marks)))
    ≡ map (own_ink (text_source kept uses text span mode)) (shown_in_text (name_texts kept uses) text span mode)

-- All else that stands in plain text is white space, bars and ends of comments.
abbrev pub PlainAddsLittle : Type 0
PlainAddsLittle = (s : PlainSource) (items : List Item) → All AddsLittle (plain_inks s items)
