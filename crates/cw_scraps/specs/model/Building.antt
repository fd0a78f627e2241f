-- How far the joining of a new list has come.
use Rattle.std.specs.Prelude.{◌≡◌, ℕ, ◌+◌, ◌-◌, ◌*◌, ◌<◌, ◌≤◌, List, [], ◌∷◌, ◌++◌, length, map, drop, slice_index_or}
use Rattle.std.specs.Prelude.{Some}
use Rattle.cw_base.specs.declared.mode.MathMode.{MathMode}
use Rattle.cw_base.specs.declared.mode.MathMode.TheVariants.{Maybe}
use Rattle.cw_trees.specs.Joining.{first_mode}
use Rattle.cw_table.specs.declared.types.Piece.{Piece}
use Rattle.cw_tokens.specs.declared.token.Token.{Token}
use Rattle.cw_tokens.specs.Stored.{StoredLists}
use Rattle.cw_tokens.specs.References.{IsUnreferred}
use Rattle.cw_scraps.specs.declared.line.LineEntry.{LineEntry}
use Rattle.cw_scraps.specs.Lines.{roots_of}
use Rattle.cw_scraps.specs.model.Inserting.{inserting, tokens_of, left_of, right_after, IsRun}

pub record Joins (lists : List (List Token)) (entries : List LineEntry) (pieces : List Piece) (spare i : ℕ)
    (left mode : MathMode) (store : StoredLists) : Type 0 where
  pub done : List Token
  pub is : store.building ≡ Some done
  pub same : store.lists ≡ lists
  pub spent : store.spare + length done + 1 ≡ spare
  pub few : length done ≤ 2 * i - 1
  pub start : i ≡ 0 → mode ≡ Maybe
  pub begun : left ≡ Maybe → mode ≡ Maybe
  pub tokens : done ++ tokens_of mode (map (inserting entries) (drop i pieces))
      ≡ tokens_of Maybe (map (inserting entries) pieces)
  pub left_is : first_mode left (left_of (map (inserting entries) (drop i pieces)))
      ≡ left_of (map (inserting entries) pieces)
  pub right_is : right_after mode (map (inserting entries) (drop i pieces))
      ≡ right_after Maybe (map (inserting entries) pieces)
  pub rest : IsRun (drop i pieces) (length entries)
  pub fresh : (k : ℕ) → rest.first ≤ k → k < rest.first + rest.more
      → IsUnreferred (lists ++ done ∷ []) (slice_index_or (roots_of entries) k 0)
