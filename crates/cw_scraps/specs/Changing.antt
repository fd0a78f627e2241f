-- What a step leaves of a store.
use Rattle.std.specs.Prelude.{◌≡◌, ℕ, List, [], slice_index_or}
use Rattle.cw_tokens.specs.declared.token.Token.{Token}
use Rattle.cw_tokens.specs.Shapes.{unfolded}
use Rattle.cw_tokens.specs.References.{IsUnreferred}
use Rattle.cw_scraps.specs.Lines.{IsOutside}

-- A list that stood in no tree of a line is as it was, with its tree, and stands in no tree of the new line; if
-- nothing referred to it, as to the lists of every other line over the store, nothing refers to it now.
pub record Keeps (old new : List (List Token)) (old_roots new_roots : List ℕ) : Type 0 where
  pub lists : (k : ℕ) → IsOutside old old_roots k → slice_index_or new k [] ≡ slice_index_or old k []
  pub trees : (k : ℕ) → IsOutside old old_roots k → unfolded new k ≡ unfolded old k
  pub outside : (k : ℕ) → IsOutside old old_roots k → IsOutside new new_roots k
  pub free : (k : ℕ) → IsOutside old old_roots k → IsUnreferred old k → IsUnreferred new k
