-- C texts that no section code cuts.
use Rattle.std.specs.Prelude.{◌≡◌, ℕ, ◌≤◌, false, List, All, length}
use Rattle.cw_base.specs.declared.span.Span.{Span}
use Rattle.cw_lex.specs.Nested.{begins_section_in}
use Rattle.cw_rules.specs.declared.tokens.Mode.{Mode}
use Rattle.cw_rules.specs.declared.tokens.Mode.TheVariants as modes
use Rattle.cw_texts.specs.declared.definitions.Definition.{Definition}
use Rattle.cw_texts.specs.Definitions.{definitions_in}
use Rattle.cw_phase1.specs.declared.sections.Section.{Section}
use Rattle.cw_texts.specs.Scans.{scanned}
use Rattle.cw_texts.specs.TexPieces.{TexPiece, Copied, InnerText, Cited}

-- It stands in the web's text, and no section code stands in its scan.
pub record IsWholeIn (mode : Mode) (text : List ℕ) (part : Span) : Type 0 where
  pub order : part.start ≤ part.«end»
  pub within : part.«end» ≤ length text
  pub uncut : begins_section_in (scanned mode text part) ≡ false

abbrev pub IsWholeDefinition : List ℕ → Definition → Type 0
IsWholeDefinition text d = IsWholeIn modes.Definition text d.span

-- the definitions of a section, all together and one by one, and its C part
pub record IsWholeRest (text : List ℕ) (section : Section) : Type 0 where
  pub definitions : IsWholeIn modes.Definition text section.definitions
  pub each : All (IsWholeDefinition text) (definitions_in text section.definitions)
  pub c_part : IsWholeIn modes.CPart text section.c_part

-- ## In TeX parts

-- A C text stands in the web's text, and no section code cuts it.
pub record IsWhole (text : List ℕ) (part : Span) : Type 0 where
  pub order : part.start ≤ part.«end»
  pub within : part.«end» ≤ length text
  pub uncut : begins_section_in (scanned modes.Inner text part) ≡ false

abbrev pub IsWholePiece : List ℕ → TexPiece → Type 0
IsWholePiece text (Copied token) = Unit {0}
IsWholePiece text (InnerText part) = IsWhole text part
IsWholePiece text (Cited part) = IsWhole text part
