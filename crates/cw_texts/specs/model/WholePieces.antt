-- The C texts in a TeX part are whole.
use Rattle.std.specs.Prelude.{◌≡◌, ℕ, ◌≤◌, false, All, List, length}
use Rattle.cw_base.specs.declared.span.Span.{Span}
use Rattle.cw_rules.specs.declared.tokens.Mode.TheVariants as modes
use Rattle.cw_lex.specs.Openings.{opens_part_in}
use Rattle.cw_phase1.specs.declared.sections.Section.{Section}
use Rattle.cw_phase1.specs.Whole.{IsWholeSection}
use Rattle.cw_texts.specs.Scans.{scanned}
use Rattle.cw_texts.specs.WholeTexts.{IsWholePiece}
use Rattle.cw_texts.specs.TexPieces.{tex_pieces_of}

-- They are whole in TeX text in which no other part of a section begins.
abbrev pub PiecesAreWhole : Type 0
PiecesAreWhole = (text : List ℕ) (part : Span) → part.start ≤ part.«end» → part.«end» ≤ length text
    → opens_part_in (scanned modes.TexText text part) ≡ false → All (IsWholePiece text) (tex_pieces_of text part)

-- So it is in the TeX part of each section that is whole.
abbrev pub TexPartsAreWhole : Type 0
TexPartsAreWhole = (text : List ℕ) (section : Section) → IsWholeSection text section
    → All (IsWholePiece text) (tex_pieces_of text section.tex)
