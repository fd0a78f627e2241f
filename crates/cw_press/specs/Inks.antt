-- What limbo and TeX text print.
--
-- Text is copied byte by byte, but not every line's end: it is printed where the line of the book holds bytes by then,
-- or where its line of the web is empty. So a line that holds only codes that print nothing leaves no empty line in the
-- book.
use Rattle.std.specs.Prelude.{ℕ, ◌+◌, ◌-◌, ◌==◌, ◌||◌, Bool, false, not, List, [], ◌∷◌, ◌++◌, map, codes, slice_index}
use Rattle.std.specs.Prelude.{slice_range, if◌then◌else◌}
use Rattle.std.specs.List.{flat_map}
use Rattle.cw_base.specs.Bytes.{newline}
use Rattle.cw_rules.specs.declared.codes.Code.{Code}
use Rattle.cw_rules.specs.declared.codes.Code.TheVariants as at
use Rattle.cw_rules.specs.declared.tokens.TokKind.{TokKind}
use Rattle.cw_rules.specs.declared.tokens.TokKind.TheVariants as kinds
use Rattle.cw_rules.specs.Answers.{Seen, Answer, Token, Begin, Finish, Note}
use Rattle.cw_lex.specs.Nest.{is_text_kind}
use Rattle.cw_base.specs.declared.span.Span.{Span}
use Rattle.cw_base.specs.Conditions.{list_if}

-- the bytes of a span of the text
abbrev pub bytes_of : List ℕ → Span → List ℕ
bytes_of text span = slice_range text span.start span.«end»

-- a byte that is printed, or a line's end and whether its line of the web is empty
pub data Ink : Type 0 where
  Print : (byte : ℕ) → Ink
  LineEnd : (empty : Bool) → Ink

abbrev pub prints : List ℕ → List Ink
prints bytes = map (λ byte. Print byte) bytes

-- the line of the web that ends at this place is empty
abbrev pub ends_empty_line : List ℕ → ℕ → Bool
ends_empty_line text place = place == 0 || slice_index text (place - 1) == newline

abbrev pub ink_by : Bool → List ℕ → ℕ → ℕ → Ink
ink_by ends text place byte = if ends then LineEnd (ends_empty_line text place) else Print byte

-- copied bytes of the web's text, from a place on
abbrev pub copied : List ℕ → ℕ → List ℕ → List Ink
copied text place [] = []
copied text place (byte ∷ bytes) = ink_by (byte == newline) text place byte ∷ copied text (place + 1) bytes

-- What a token of limbo or of TeX text prints: a piece of text is copied, `@@` is one `@`, and `@l` in limbo is `\ATL`;
-- no other code prints anything.
abbrev pub code_inks : Code → List Ink
code_inks at.At = prints (codes "@")
code_inks at.Letters = prints (codes "\\ATL")
code_inks _ = []

abbrev pub kind_inks : TokKind → List Ink
kind_inks (kinds.Code code) = code_inks code
kind_inks _ = []

abbrev pub token_inks_by : Bool → List ℕ → TokKind → Seen → List Ink
token_inks_by ended text kind token =
    if ended then copied text token.span.start (bytes_of text token.span) else kind_inks kind

abbrev pub token_inks : List ℕ → TokKind → Seen → List Ink
token_inks text kind token = token_inks_by (is_text_kind kind) text kind token

abbrev pub answer_inks : List ℕ → Answer → List Ink
answer_inks text (Token token) = token_inks text token.kind token
answer_inks text (Begin token) = []
answer_inks text (Finish token) = []
answer_inks text (Note kind place) = []

abbrev pub inks : List ℕ → List Answer → List Ink
inks text answers = flat_map (answer_inks text) answers

-- a line's end where it is printed
abbrev pub end_if : Bool → List ℕ
end_if holds = list_if holds (newline ∷ [])

-- The bytes, where the line of the book holds bytes or not; at their end a line that holds bytes is ended. Behind a
-- byte that is printed a line holds bytes, unless that byte ends it, as one in a C text may.
abbrev pub laid : Bool → List Ink → List ℕ
laid holds [] = end_if holds
laid holds (Print byte ∷ inks) = byte ∷ laid (not (byte == newline)) inks
laid holds (LineEnd empty ∷ inks) = end_if (holds || empty) ++ laid false inks
