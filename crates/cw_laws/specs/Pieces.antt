-- The pieces of a web: limbo, and of each section its code, its TeX part, its definitions and its C part.
--
-- The code of a section is `@` before a blank or a line's end, or `@*` with its depth, and the blanks behind it on its
-- line. It stands between the part before it and its TeX part. All other codes stand in the part that they begin: `@d`,
-- `@f` and `@s` in the definitions, and `@c`, `@p` or a name with its sign in the C part.
use Rattle.std.specs.Prelude.{◌≡◌, ℕ, ◌+◌, ◌<◌, ◌≤◌, Bool, true, false, ◌&&◌, ◌⊎◌, nat_lt, nat_le, List, [], ◌∷◌}
use Rattle.std.specs.Prelude.{length, drop, slice_range}
use Rattle.std.specs.List.{count_by, flat_map}
use Rattle.cw_base.specs.declared.span.Span.{Span}
use Rattle.cw_base.specs.Web.{MergedLine, text_of}
use Rattle.cw_rules.specs.declared.codes.Code.{Code}
use Rattle.cw_rules.specs.declared.codes.Code.TheVariants as at
use Rattle.cw_rules.specs.Bytes.{at_sign, begins}
use Rattle.cw_rules.specs.Codes.{code_at}
use Rattle.cw_rules.specs.Tokens.{section_code}
use Rattle.cw_lex.specs.Parts.{is_section_at}
use Rattle.cw_phase1.specs.declared.sections.Section.{Section}
use Rattle.cw_phase1.specs.Book.{book}
use Rattle.cw_phase1.specs.Sections.{span, is_starred}

-- The pieces of sections, of which the first begins at a place, and each other one where the one before it ends.
abbrev pub pieces_from : ℕ → List Section → List Span
pieces_from place [] = []
pieces_from place (s ∷ sections) =
    span place s.tex.start ∷ s.tex ∷ s.definitions ∷ s.c_part ∷ pieces_from s.c_part.end sections

abbrev pub book_pieces : Span → List Section → List Span
book_pieces limbo sections = limbo ∷ pieces_from limbo.end sections

-- Pieces lie end to end from one place up to another: each begins where the one before it ends.
abbrev pub EndToEnd : ℕ → ℕ → List Span → Type 0
EndToEnd from end [] = from ≡ end
EndToEnd from end (piece ∷ pieces) =
    (piece.start ≡ from) × (piece.start ≤ piece.end) × EndToEnd piece.end end pieces

-- The codes with which definitions begin, and those with which a C part does: `@d`, `@f` and `@s`, and `@c`, `@p` and
-- the code of a name.
abbrev pub opens_definitions : Code → Bool
opens_definitions at.Define = true
opens_definitions at.Format = true
opens_definitions at.SilentFormat = true
opens_definitions code = false

abbrev pub opens_c_part : Code → Bool
opens_c_part at.Program = true
opens_c_part at.SectionName = true
opens_c_part at.FileName = true
opens_c_part code = false

-- A part is empty, or such a code stands where it begins.
abbrev pub BeginsBy : List ℕ → (Code → Bool) → Span → Type 0
BeginsBy text opens part =
    (part.start ≡ part.end)
    ⊎ ((begins at_sign (drop part.start text) && opens (code_at (drop (part.start + 1) text))) ≡ true)

-- A section begins at a place: its code stands there, and its TeX part begins right behind the code. Its definitions
-- and its C part begin with codes of theirs.
pub record SectionBeginsAt (text : List ℕ) (place : ℕ) (s : Section) : Type 0 where
  pub code : is_section_at text place ≡ true
  pub behind : s.tex.start ≡ place + (section_code (drop place text)).size
  pub starred : s.starred ≡ is_starred (section_code (drop place text)).kind
  pub definitions : BeginsBy text opens_definitions s.definitions
  pub c_part : BeginsBy text opens_c_part s.c_part

abbrev pub AreBegun : List ℕ → ℕ → List Section → Type 0
AreBegun text place [] = Unit {0}
AreBegun text place (s ∷ sections) = SectionBeginsAt text place s × AreBegun text s.c_part.end sections

-- the bytes of pieces, one behind another
abbrev pub piece_bytes : List ℕ → List Span → List ℕ
piece_bytes text pieces = flat_map (λ (piece : Span). slice_range text piece.start piece.end) pieces

-- how many of the pieces have the byte at a place
abbrev pub has_byte : ℕ → Span → Bool
has_byte place piece = nat_le piece.start place && nat_lt place piece.end

abbrev pub pieces_with : ℕ → List Span → ℕ
pieces_with place pieces = count_by (has_byte place) pieces

-- Limbo and sections are all of a text: their pieces lie end to end, from its first byte to its last, and begin with
-- their codes. So the bytes of the pieces are those of the text, and each byte stands in just one piece.
pub record IsAllOf (text : List ℕ) (limbo : Span) (sections : List Section) : Type 0 where
  pub end_to_end : EndToEnd 0 (length text) (book_pieces limbo sections)
  pub begun : AreBegun text limbo.end sections
  pub bytes : piece_bytes text (book_pieces limbo sections) ≡ text
  pub once : (place : ℕ) → place < length text → pieces_with place (book_pieces limbo sections) ≡ 1

-- So it is with the book of every web.
abbrev pub BooksAreWhole : Type 0
BooksAreWhole =
    (lines : List MergedLine) → IsAllOf (text_of lines) (book lines).outline.limbo (book lines).outline.sections
