-- The models beside `specs/Changing`.
use Rattle.std.specs.Prelude.{◌≡◌, ℕ, List, [], length, slice_index_or}
use Rattle.cw_tokens.specs.declared.token.Token.{Token}
use Rattle.cw_tokens.specs.Counting.{token_count}
use Rattle.cw_tokens.specs.References.{refers}
use Rattle.cw_scraps.specs.Lines.{IsOutside}

-- no reference and no number of tokens changes, and no list but those in the trees of the roots
pub record Changes (old new : List (List Token)) (roots : List ℕ) : Type 0 where
  pub others : (k : ℕ) → IsOutside old roots k → slice_index_or new k [] ≡ slice_index_or old k []
  pub same_length : length new ≡ length old
  pub same_refs : (l p : ℕ) → refers new l p ≡ refers old l p
  pub same_count : token_count new ≡ token_count old
