-- The names for which section names stand are sorted one after another.
use Rattle.cw_index.proofs.Terms.{◌≡◌, ℕ, ◌+◌, ap, ◌∙◌, List, ◌++◌, Some, drop, map, arith, slice_get, on, insert_key}
use Rattle.cw_index.proofs.Terms.{SecName, NameUse, Standing, sorted_on, StandingName, named_stands, stand_at}
use Rattle.cw_index.proofs.Terms.{stand_cmp, stand_of, stands_of}
use Rattle.std.proofs.lemmas.List.Sums.{fold-append}
use Rattle.cw_index.proofs.RowLaws.{drop-at, inserted}

-- The names so far, with those that are still to come, are all.
abbrev pub with_stands : List SecName → List NameUse → List StandingName → List StandingName
with_stands kept later stands = sorted_on stand_cmp stands (named_stands kept later)

sorted-append : (xs ys stands : List StandingName)
    → sorted_on stand_cmp stands (xs ++ ys) ≡ sorted_on stand_cmp (sorted_on stand_cmp stands xs) ys
sorted-append xs ys stands = fold-append (insert_key stand_cmp) stands xs ys

pub stands-step : (kept : List SecName) (uses : List NameUse) (i : ℕ) (u : NameUse) (stands more : List StandingName)
    → slice_get uses i ≡ Some u → more ≡ sorted_on stand_cmp stands (stand_at kept u)
    → with_stands kept (drop (i + 1) uses) more ≡ with_stands kept (drop i uses) stands
stands-step kept uses i u stands more here is = grind (arith, sorted-append, drop-at)

pub entered : (s : Standing) (old new : List Standing) → new ≡ insert_key (on stand_of stand_cmp) old s
    → map stand_of new ≡ sorted_on stand_cmp (map stand_of old) (stands_of (Some s))
entered s old new is = ap (map stand_of) is ∙ inserted stand_of stand_cmp old s
