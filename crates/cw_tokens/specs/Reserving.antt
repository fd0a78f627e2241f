-- What becomes of a store when the first identifier of a tree is turned into a reserved word.
use Rattle.std.specs.Prelude.{◌≡◌, ℕ, List, [], length, Some, set, slice_index_or, slice_get}
use Rattle.cw_base.specs.declared.category.Cat.TheVariants.{RawInt}
use Rattle.cw_names.specs.declared.NameId.{NameId}
use Rattle.cw_trees.specs.Tree.{reserve_first}
use Rattle.cw_tokens.specs.declared.token.Token.{Token}
use Rattle.cw_tokens.specs.declared.token.Token.TheVariants.{Ident, Reserved}
use Rattle.cw_tokens.specs.Counting.{token_count}
use Rattle.cw_tokens.specs.Shapes.{unfolded}
use Rattle.cw_tokens.specs.References.{refers, Reach}

-- exactly one token has changed: an identifier of this name has become a reserved word
pub record ReservesToken (old new : List (List Token)) (name : NameId) : Type 0 where
  pub list : ℕ
  pub place : ℕ
  pub number : ℕ
  pub was : slice_get (slice_index_or old list []) place ≡ Some (Ident name number)
  pub is : new ≡ set old list (set (slice_index_or old list []) place (Reserved name number RawInt))

-- the tree of the root is the one whose first identifier is reserved, and each list and tree stays that
-- neither holds the root nor stands in it
pub record Reserves (old new : List (List Token)) (root : ℕ) : Type 0 where
  pub tree : unfolded new root ≡ reserve_first (unfolded old root)
  pub other_lists : (k : ℕ) → (Reach old k root → ⊥) → (Reach old root k → ⊥)
      → slice_index_or new k [] ≡ slice_index_or old k []
  pub other_trees : (k : ℕ) → (Reach old k root → ⊥) → (Reach old root k → ⊥) → unfolded new k ≡ unfolded old k
  pub same_length : length new ≡ length old
  pub same_refs : (l p : ℕ) → refers new l p ≡ refers old l p
  pub same_count : token_count new ≡ token_count old
