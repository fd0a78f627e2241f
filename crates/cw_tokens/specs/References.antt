-- Which lists of a store refer to which.
use Rattle.std.specs.Prelude.{◌≡◌, ℕ, ◌<◌, List, [], Option, Some, None, slice_index_or, slice_get}
use Rattle.cw_tokens.specs.declared.token.Token.{Token}
use Rattle.cw_tokens.specs.Shapes.{shape, ref_of}

abbrev pub token_ref : Option Token → Option ℕ
token_ref None = None
token_ref (Some token) = ref_of (shape token)

-- the list to which token p of list l refers
abbrev pub refers : List (List Token) → ℕ → ℕ → Option ℕ
refers lists l p = token_ref (slice_get (slice_index_or lists l []) p)

-- no list refers to list x
abbrev pub IsUnreferred : List (List Token) → ℕ → Type 0
IsUnreferred lists x = (l p : ℕ) → refers lists l p ≡ Some x → ⊥

-- a list refers only to earlier lists, and each list is referred to at most once
pub record IsTied (lists : List (List Token)) : Type 0 where
  pub earlier : (l p x : ℕ) → refers lists l p ≡ Some x → x < l
  pub once : (l p m q x : ℕ) → refers lists l p ≡ Some x → refers lists m q ≡ Some x → (l ≡ m) × (p ≡ q)

-- list b stands in the tree of list a
pub data Reach (lists : List (List Token)) (a : ℕ) : ℕ → Type 0 where
  here : Reach lists a a
  next : (l p n : ℕ) → refers lists l p ≡ Some n → Reach lists a l → Reach lists a n
