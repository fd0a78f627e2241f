-- What the tokens of a leaf tell, and that a leaf line and an item say what they are told of.
use Rattle.std.specs.Prelude.{◌≡◌, ℕ, ◌++◌, Bool, List, map}
use Rattle.cw_names.specs.declared.entry.NameId.{NameId}
use Rattle.cw_names.specs.Names.{Entry}
use Rattle.cw_trees.specs.Joining.{Scrap}
use Rattle.cw_table.specs.Normal.{Production}
use Rattle.cw_leaves.specs.LeafLines.{leaf_line, said, said_by}
use Rattle.cw_leaves.specs.Sights.{Utterance, silence, told_by}
use Rattle.cw_leaves.specs.Spelling.{id_of, item_of, line_of, production_of, spelled}
use Rattle.cw_tokens.specs.declared.token.Token.{Token}
use Rattle.cw_tokens.specs.Shapes.{Shape, Plain, Below, InnerBelow, unfolded}

-- what a token of a list says
abbrev pub token_said : List (List Token) → Shape → Utterance ℕ
token_said lists (Plain leaf) = told_by (said_by leaf)
token_said lists (Below list) = said (unfolded lists list)
token_said lists (InnerBelow list) = silence

-- the names are put behind others, and it is answered whether something stops
pub record IsSaid (said : Utterance ℕ) (old new : List NameId) (stops : Bool) : Type 0 where
  pub grown : new ≡ old ++ map id_of said.names
  pub is : stops ≡ said.stops

-- Spelled with whatever names, they are the leaf line and the production.
abbrev pub LinesSayScraps : Type 0
LinesSayScraps = (names : List Entry) (scrap : Scrap) → spelled names (line_of scrap) ≡ leaf_line names scrap

abbrev pub ItemsSayProductions : Type 0
ItemsSayProductions = (p : Production) → production_of (item_of p) ≡ p
