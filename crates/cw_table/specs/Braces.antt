-- The braces that productions put in. In each row they pair, and no piece between them needs text mode: there TeX would
-- have to leave math, and between braces it can't.
use Rattle.std.specs.Prelude.{ℕ, zero, suc, pred, Bool, true, false, not, ◌&&◌, ◌||◌, nat_eq, nat_lt, ◌≡◌, List, []}
use Rattle.std.specs.Prelude.{◌∷◌}
use Rattle.std.specs.Prelude.{◌++◌}
use Rattle.std.specs.List.{list_all}
use Rattle.cw_base.specs.Category.{all_cats, in_set}
use Rattle.cw_base.specs.Conditions.{list_if}
use Rattle.cw_base.specs.declared.category.Cat.{Cat}
use Rattle.cw_base.specs.declared.category.Cat.TheVariants.{Binop, ConstLike, Dot, RawUbin, Ubinop}
use Rattle.cw_base.specs.declared.category.CatSet.{CatSet}
use Rattle.cw_base.specs.declared.mode.MathMode.{MathMode}
use Rattle.cw_base.specs.declared.mode.MathMode.TheVariants.{Text}
use Rattle.cw_table.specs.Insertions.{insertion_of}
use Rattle.cw_table.specs.Productions.{productions}
use Rattle.cw_table.specs.Rows.{test, translation}
use Rattle.cw_table.specs.declared.types.Insertion.{Insertion}
use Rattle.cw_table.specs.declared.types.Insertion.TheVariants.{Scrap, Sign}
use Rattle.cw_table.specs.declared.types.Piece.{Piece}
use Rattle.cw_table.specs.declared.types.Piece.TheVariants.{OpenBrace, CloseBrace, OpenRelation}
use Rattle.cw_table.specs.declared.types.Row.{Row}
use Rattle.cw_table.specs.declared.types.RowResult.{RowResult}
use Rattle.cw_table.specs.declared.types.RowResult.TheVariants.{Is, SameAs}

-- ## Categories

-- The calm categories: a scrap of theirs holds no text. They are `*` and `&`, the signs that may stand before one
-- operand or between two, `const` and its like, and the dot before a field.
abbrev pub is_calm : Cat → Bool
is_calm RawUbin = true
is_calm ConstLike = true
is_calm Ubinop = true
is_calm Dot = true
is_calm _ = false

abbrev pub is_binop : Cat → Bool
is_binop Binop = true
is_binop _ = false

-- each category that a test admits is one of these
abbrev pub admits_only : (Cat → Bool) → CatSet → Bool
admits_only these set = list_all (λ cat. not (in_set set cat) || these cat) all_cats

-- ## Pieces

-- the braces of pieces pair, where so many are open before them
abbrev pub braces_pair : ℕ → List Piece → Bool
braces_pair depth [] = nat_eq depth 0
braces_pair depth (OpenBrace ∷ pieces) = braces_pair (suc depth) pieces
braces_pair depth (OpenRelation ∷ pieces) = braces_pair (suc depth) pieces
braces_pair zero (CloseBrace ∷ pieces) = false
braces_pair (suc depth) (CloseBrace ∷ pieces) = braces_pair depth pieces
braces_pair depth (piece ∷ pieces) = braces_pair depth pieces

-- the pieces that stand between braces, where so many are open before them
abbrev pub between : ℕ → List Piece → List Piece
between depth [] = []
between depth (OpenBrace ∷ pieces) = between (suc depth) pieces
between depth (OpenRelation ∷ pieces) = between (suc depth) pieces
between depth (CloseBrace ∷ pieces) = between (pred depth) pieces
between zero (piece ∷ pieces) = between zero pieces
between (suc depth) (piece ∷ pieces) = piece ∷ between (suc depth) pieces

abbrev pub is_text : MathMode → Bool
is_text Text = true
is_text _ = false

-- what is put in is a tested scrap of such a category, whichever its test admits, or a control that needs no text
abbrev pub is_quiet : (ℕ → Cat → Bool) → Row → Insertion → Bool
is_quiet these row (Scrap k mode) = nat_lt k row.test_count && admits_only (these k) (test row k)
is_quiet these row (Sign control mode) = not (is_text mode)

abbrev pub are_quiet : (ℕ → Cat → Bool) → Row → List Piece → Bool
are_quiet these row pieces = list_all (λ piece. is_quiet these row (insertion_of piece)) pieces

-- ## Rows

-- What may stand between the braces of a row: calm scraps, and where it makes an operator, operators. Of these no row
-- can say that they hold no text.
abbrev pub may_stand : RowResult → ℕ → Cat → Bool
may_stand (Is made) k cat = is_calm cat || (is_binop made && is_binop cat)
may_stand (SameAs q) k cat = is_calm cat

-- The result may be calm: by its category, or by one that the test of the scrap admits whose category it takes.
abbrev pub may_be_calm : Row → RowResult → Bool
may_be_calm row (Is made) = is_calm made
may_be_calm row (SameAs k) = not (admits_only (λ cat. not (is_calm cat)) (test row k))

-- Of what a calm result is made: of calm scraps. A scrap that hands its category on is as calm as the result.
abbrev pub makes_calm : RowResult → ℕ → Cat → Bool
makes_calm (Is made) k cat = is_calm cat
makes_calm (SameAs q) k cat = is_calm cat || nat_eq k q

-- The braces of pieces pair, what stands between them needs no text, and where the result may be calm, no piece does.
abbrev pub pieces_are_braced : Row → List Piece → Bool
pieces_are_braced row pieces =
    braces_pair 0 pieces
    && are_quiet (may_stand row.result) row (between 0 pieces)
    && (not (may_be_calm row row.result) || are_quiet (makes_calm row.result) row pieces)

unfoldable pub row_is_braced : Row → Bool
row_is_braced row = pieces_are_braced row (translation row.action.usual)
    && pieces_are_braced row (translation row.action.other)

-- a row that puts other scraps than calm ones between braces, and the numbers of these rows
abbrev pub braces_operators : Row → Bool
braces_operators row = not (are_quiet (λ k. is_calm) row (between 0 (translation row.action.usual))
    && are_quiet (λ k. is_calm) row (between 0 (translation row.action.other)))

unfoldable pub operator_rows : List Row → List ℕ
operator_rows [] = []
operator_rows (row ∷ rows) = list_if (braces_operators row) (row.number.number ∷ []) ++ operator_rows rows

-- ## Laws

-- In each row the braces pair, and what stands between them needs no text, but for the operators of rows that make one
-- operator of two signs.
abbrev pub RowsAreBraced : Type 0
RowsAreBraced = list_all row_is_braced productions ≡ true

abbrev pub OperatorsStandInThree : Type 0
OperatorsStandInThree = operator_rows productions ≡ 20 ∷ 21 ∷ 102 ∷ []
