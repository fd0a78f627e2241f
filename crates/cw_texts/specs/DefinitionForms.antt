-- Definitions, as they are handed on.
use Rattle.std.specs.Prelude.{◌≡◌, List, [], ◌∷◌, Option, Some, None}
use Rattle.cw_texts.specs.declared.definitions.Definition.{Definition}

-- The first of the old definitions is this one, and the new ones are the rest; at the end there are none.
abbrev pub GivesDefinition : List Definition → Option Definition → List Definition → Type 0
GivesDefinition old (Some d) new = old ≡ d ∷ new
GivesDefinition old None new = (old ≡ []) × (new ≡ [])
