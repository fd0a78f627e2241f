-- The definitions of a whole section are whole, all together and one by one.
use Rattle.std.specs.Prelude.{ℕ, List, All}
use Rattle.cw_base.specs.declared.span.Span.{Span}
use Rattle.cw_rules.specs.declared.tokens.Mode.TheVariants as modes
use Rattle.cw_texts.specs.Definitions.{definitions_in}
use Rattle.cw_texts.specs.WholeTexts.{IsWholeDefinition, IsWholeIn, IsWholeRest}
use Rattle.cw_phase1.specs.declared.sections.Section.{Section}
use Rattle.cw_phase1.specs.Whole.{IsWholeSection}

-- Each definition of a whole text is whole.
abbrev pub DefinitionsAreWhole : Type 0
DefinitionsAreWhole = (text : List ℕ) (part : Span) → IsWholeIn modes.Definition text part
    → All (IsWholeDefinition text) (definitions_in text part)

-- All that a whole section prints behind its TeX part is whole.
abbrev pub RestsAreWhole : Type 0
RestsAreWhole = (text : List ℕ) (section : Section) → IsWholeSection text section → IsWholeRest text section
