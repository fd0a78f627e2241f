-- How far a reducer must step back after a production: which rows may fit before the new scrap that didn't
-- fit there before.
use Rattle.std.specs.Prelude.{ℕ, suc, ◌+◌, ◌-◌, ◌<◌, ◌≡◌, Bool, true, false, not, ◌&&◌, ◌||◌, nat_eq, nat_le, nat_lt}
use Rattle.std.specs.Prelude.{List, []}
use Rattle.std.specs.Prelude.{if◌then◌else◌}
use Rattle.std.specs.Prelude.{is_some}
use Rattle.std.specs.Prelude.{◌∷◌, ◌++◌, drop, filter, map, take, Some, None}
use Rattle.std.specs.List.{flat_map, list_all, list_any}
use Rattle.cw_base.specs.declared.category.Cat.{Cat}
use Rattle.cw_base.specs.declared.category.CatSet.{CatSet}
use Rattle.cw_base.specs.Category.{all_cats, in_set, meet}
use Rattle.cw_table.specs.declared.types.RowResult.{RowResult}
use Rattle.cw_table.specs.declared.types.RowResult.TheVariants.{Is, SameAs}
use Rattle.cw_table.specs.declared.types.Row.{Row}
use Rattle.cw_table.specs.Fitting.{first_of}
use Rattle.cw_table.specs.Rows.{result_at, test}
use Rattle.cw_table.specs.Sound.{numbers_from}

-- the categories of a set
abbrev pub members : CatSet → List Cat
members s = filter (in_set s) all_cats

-- a category where the row begins to replace, and the category that stands there afterwards
abbrev pub Pair : Type 0
Pair = Cat × Cat

-- the pairs that a result can give, where the replaced scraps begin with one of the first set
abbrev pub pairs_by : RowResult → Row → List Pair
pairs_by (Is new) row = map (λ old. (old, new)) (members (test row row.offset))
pairs_by (SameAs k) row =
    if nat_eq k row.offset then map (λ old. (old, old)) (members (test row row.offset))
    else flat_map (λ old. map (λ new. (old, new)) (members (test row k))) (members (test row row.offset))

abbrev pub pairs_of : Row → List Pair
pairs_of row = pairs_by row.result row

-- the row makes a name a reserved word, here and to the right
abbrev pub reserves : Row → Bool
reserves row = is_some row.action.reserve

-- the other row looks past the new scrap, at what has moved or may have changed there
abbrev pub sees_moved : Row → Row → ℕ → Bool
sees_moved row other q = nat_lt (suc q) other.test_count && (nat_le 2 row.replaced || reserves row)

-- test q of the other row admits the new category, and that or what it sees behind is new to it
abbrev pub brings : Row → Row → ℕ → Pair → Bool
brings row other q pair =
    in_set (test other q) pair.1 && (not (in_set (test other q) pair.0) || sees_moved row other q)

-- what stands before the new scrap suits both rows, where the other row begins so many places before this one
abbrev pub suits_before : Row → Row → ℕ → Bool
suits_before row other places =
    list_all (λ a. meet (test other (places + a)) (test row a)) (numbers_from 0 row.offset)

-- a test of the other row behind the new scrap suits the test that this row had there, where it had one
abbrev pub suits_at : Row → Row → ℕ → ℕ → Bool
suits_at row other places s =
    nat_le row.test_count (s + row.replaced - (places + 1))
    || meet (test other s) (test row (s + row.replaced - (places + 1)))

-- what stands behind the new scrap suits both rows
abbrev pub suits_after : Row → Row → ℕ → Bool
suits_after row other places =
    list_all (suits_at row other places)
    (numbers_from (suc (places + row.offset)) (other.test_count - suc (places + row.offset)))

-- the row may bring the other row to fit so many places before, where it didn't fit
abbrev pub is_hazard : Row → Row → ℕ → Bool
is_hazard row other places =
    nat_lt (places + row.offset) other.test_count
    && (list_any (brings row other (places + row.offset)) (pairs_of row)
    && (suits_before row other places && (reserves row || suits_after row other places)))

unfoldable pub endangers : List Row → Row → ℕ → Bool
endangers rows row places = list_any (λ other. is_hazard row other places) rows

-- the distance is safe: the row is a hazard to none further before it
abbrev pub safe : List Row → Row → ℕ → Bool
safe rows row distance = list_all (λ places. nat_le places distance || not (endangers rows row places)) (1 ∷ 2 ∷ 3 ∷ [])

-- the least distance that is safe; 3 always is
abbrev pub least : List Row → Row → ℕ
least rows row =
    if safe rows row 0 then 0
    else if safe rows row 1 then 1
    else if safe rows row 2 then 2
    else 3

-- the row is the first that fits at this place, and no row fits at a lower one
pub record IsLeast (rows : List Row) (cats : List Cat) (place : ℕ) (row : Row) : Type 0 where
  pub fits : first_of rows (drop place cats) ≡ Some row
  pub none_below : (lower : ℕ) → lower < place → first_of rows (drop lower cats) ≡ None

-- the categories after the row was applied at the place, where `rest` stands to the right of the new scrap
abbrev pub rewritten : Row → ℕ → List Cat → List Cat → List Cat
rewritten row place cats rest =
    take place cats ++ (take row.offset (drop place cats) ++ result_at row.result (drop place cats) ∷ rest)

-- After the row was applied at the least place where some row fits, no row fits further before it than a
-- safe distance. What stands to the right of the new scrap is as before, but where the row reserves a name.
abbrev pub SafeIsSound : List Row → Row → Type 0
SafeIsSound rows row = (distance place lower : ℕ) (cats rest : List Cat) → safe rows row distance ≡ true
    → IsLeast rows cats place row → (reserves row ≡ false → rest ≡ drop (row.offset + row.replaced) (drop place cats))
    → lower + distance < place → first_of rows (drop lower (rewritten row place cats rest)) ≡ None
