-- The models beside `specs/DefinitionForms`.
use Rattle.std.specs.Prelude.{◌≡◌, false, List, [], ◌∷◌, Option, Some, None}
use Rattle.cw_base.specs.declared.span.Span.{Span}
use Rattle.cw_texts.specs.declared.definitions.Definition.{Definition}
use Rattle.cw_texts.specs.Definitions.{not_silent}

-- the same of those that aren't silent
abbrev pub loud : Span → Definition
loud span = record { span = span; silent = false }

abbrev pub GivesPrinted : List Definition → Option Span → List Definition → Type 0
GivesPrinted old (Some span) new = not_silent old ≡ loud span ∷ not_silent new
GivesPrinted old None new = not_silent old ≡ []
