-- The parts of a book's sections are whole.
use Rattle.std.specs.Prelude.{◌≡◌, ℕ, false, List, All, length}
use Rattle.cw_base.specs.Web.{MergedLine, text_of}
use Rattle.cw_base.specs.declared.span.Span.{Span}
use Rattle.cw_rules.specs.declared.tokens.Mode.{Mode}
use Rattle.cw_rules.specs.declared.tokens.Mode.TheVariants as modes
use Rattle.cw_lex.specs.Lexing.{tokens_of}
use Rattle.cw_lex.specs.Nested.{begins_section_in}
use Rattle.cw_lex.specs.Openings.{opens_part_in}
use Rattle.cw_phase1.specs.declared.sections.Section.{Section}
use Rattle.cw_phase1.specs.Book.{book}
use Rattle.cw_phase1.specs.Sound.{LiesIn}

-- A part of a text that is scanned by itself has no section code.
abbrev pub IsUncut : List ℕ → Mode → Span → Type 0
IsUncut text mode part = begins_section_in (tokens_of text part.start part.«end» mode) ≡ false

-- The parts of a section stand one behind another in the text, and none of them has a section code. In its TeX part no
-- other part begins.
pub record IsWholeSection (text : List ℕ) (s : Section) : Type 0 where
  pub lies : LiesIn (length text) s
  pub tex : IsUncut text modes.TexText s.tex
  pub tex_alone : opens_part_in (tokens_of text s.tex.start s.tex.«end» modes.TexText) ≡ false
  pub definitions : IsUncut text modes.Definition s.definitions
  pub c_part : IsUncut text modes.CPart s.c_part

-- So it is in the book of every web.
abbrev pub SectionsAreWhole : Type 0
SectionsAreWhole = (lines : List MergedLine) → All (IsWholeSection (text_of lines)) (book lines).outline.sections
