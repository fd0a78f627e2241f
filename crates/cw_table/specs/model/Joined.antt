-- A row made of its parts, which stand in lists of their own.
use Rattle.std.specs.Prelude.{List, [], ◌∷◌}
use Rattle.cw_base.specs.declared.category.CatSet.{CatSet}
use Rattle.cw_table.specs.declared.productions.Head.{Head}
use Rattle.cw_table.specs.declared.types.Piece.{Piece}
use Rattle.cw_table.specs.declared.types.Row.{Row}

-- one row
abbrev pub joined : List CatSet → List Piece → List Piece → Head → Row
joined tests usual other head = record {
  number = record { number = head.number };
  tests = tests;
  test_count = head.test_count;
  offset = head.offset;
  replaced = head.replaced;
  result = head.result;
  action = record {
    usual = record { pieces = usual; count = head.usual_count };
    other = record { pieces = other; count = head.other_count };
    choice = head.choice;
    underline = head.underline;
    reserve = head.reserve;
    bold = head.bold;
  };
}

-- row after row
abbrev pub zipped : List (List CatSet) → List (List Piece) → List (List Piece) → List Head → List Row
zipped (ts ∷ tss) (us ∷ uss) (os ∷ oss) (h ∷ hs) = joined ts us os h ∷ zipped tss uss oss hs
zipped _ _ _ _ = []
