-- The texts of a book that are still to come.
use Rattle.std.specs.Prelude.{◌≡◌, List, [], ◌∷◌, Option, Some, None}
use Rattle.cw_texts.specs.declared.text_list.TextRef.{TextRef}

-- The first of the old texts is this one, and the new ones are the rest; at the end there are none.
abbrev pub GivesRef : List TextRef → Option TextRef → List TextRef → Type 0
GivesRef old (Some text) new = old ≡ text ∷ new
GivesRef old None new = (old ≡ []) × (new ≡ [])
