-- The premise of the law of braces: the operators of which a production makes one hold no text. One holds text where a
-- comment or a layout code stands inside an operator of two signs, which is no C.
use Rattle.std.specs.Prelude.{◌≡◌, ℕ, true, List, drop, slice_index_or, All}
use Rattle.cw_base.specs.declared.flags.Flags.{Flags}
use Rattle.cw_table.specs.Braces.{between, is_binop}
use Rattle.cw_table.specs.Normal.{At, next_place, steps}
use Rattle.cw_table.specs.Productions.{productions}
use Rattle.cw_table.specs.Rewriting.{State, cats_of, row_pieces}
use Rattle.cw_table.specs.declared.types.Piece.{Piece}
use Rattle.cw_table.specs.declared.types.Piece.TheVariants as piece
use Rattle.cw_table.specs.declared.types.Row.{Row}
use Rattle.cw_trees.specs.Joining.{Scrap, no_scrap}
use Rattle.cw_brace_laws.specs.Bracing.{HoldsNoText}

-- where it is an operator, it holds no text
abbrev pub IsCleanOperator : Scrap → Type 0
IsCleanOperator scrap = is_binop scrap.cat ≡ true → HoldsNoText scrap

abbrev pub PutsCleanOperator : List Scrap → Piece → Type 0
PutsCleanOperator scraps (piece.Scrap k) = IsCleanOperator (slice_index_or scraps k no_scrap)
PutsCleanOperator scraps (piece.MathScrap k) = IsCleanOperator (slice_index_or scraps k no_scrap)
PutsCleanOperator scraps _ = Unit {0}

-- Each operator that a row puts between braces holds no text, where these scraps stand from the row's place on.
abbrev pub PutsCleanOperators : Flags → Row → List Scrap → Type 0
PutsCleanOperators flags row scraps =
    All (PutsCleanOperator scraps) (between 0 (row_pieces flags row (cats_of scraps)))

-- so does each production on the way to the normal form
abbrev pub HasCleanOperators : Flags → State → Type 0
HasCleanOperators flags state = (number place : ℕ) (row : Row)
    → next_place productions (steps productions flags number state) ≡ At place row
    → PutsCleanOperators flags row (drop place (steps productions flags number state).scraps)
