-- The pieces of a section name that are still to come.
use Rattle.std.specs.Prelude.{ℕ, List, [], Option, Some, None}
use Rattle.cw_rules.specs.Answers.{Answer}
use Rattle.cw_secnames.specs.model.Parts.{parts_at}
use Rattle.cw_print.specs.Walk.{InName, NamePiece, pieces_between}

-- those of a text from a place on, or none
abbrev pub pieces_at : List ℕ → Option ℕ → List NamePiece
pieces_at text None = []
pieces_at text (Some place) = pieces_between text place (parts_at text place)

-- the answers of the inner text at hand
abbrev pub at_hand : Option (List Answer) → List Answer
at_hand None = []
at_hand (Some answers) = answers

abbrev pub in_name : List ℕ → Option ℕ → Option (List Answer) → InName
in_name text rest inner = record { answers = at_hand inner; pieces = pieces_at text rest }
