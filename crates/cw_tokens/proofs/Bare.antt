-- A tree that is exactly one identifier is a list of one token.
use Rattle.cw_tokens.proofs.Terms.{◌≡◌, ℕ, suc, ◌<◌, List, [], ◌∷◌, length, Option, None, get_or, refl, option_map}
use Rattle.cw_tokens.proofs.Terms.{arith, Tree, bare_name, Token, Shape, item_of, tree_in, unfolded, IsTied}
use Rattle.cw_tokens.proofs.Terms.{only_name_of}
use Rattle.cw_names.specs.declared.NameId.{NameId}
use Rattle.cw_tokens.proofs.Unfolding.{unfold-is}

abbrev pub name_at : Option ℕ → Option NameId
name_at o = option_map (λ name. record { index = name }) o

bare-more : (trees : List Tree) (s t : Shape) (rest : Tree) → bare_name (item_of trees s (item_of trees t rest)) ≡ None
bare-more trees s t rest = grind arith

only-more : (t u : Token) (ts : List Token) → only_name_of (t ∷ u ∷ ts) ≡ None
only-more t u ts = grind arith

only-bare : (trees : List Tree) (ts : List Token) → only_name_of ts ≡ name_at (bare_name (tree_in trees ts))
only-bare trees ts = grind (arith, only-more, bare-more)

pub bare-list : (ls : List (List Token)) (i : ℕ) → IsTied ls → i < length ls → only_name_of (get_or ls i [])
    ≡ name_at (bare_name (unfolded ls i))
bare-list ls i tied lt = grind (arith, only-bare, unfold-is)

-- a list that hasn't exactly one token
pub only-none : (ts : List Token) → (length ts ≡ 1 → ⊥) → only_name_of ts ≡ None
only-none ts h = grind (arith, only-more)

pub one-token : (ts : List Token) (d : Token) → length ts ≡ 1 → get_or ts 0 d ∷ [] ≡ ts
one-token [] d h = absurd (let e : 0 ≡ 1 = h in omega arith)
one-token (t ∷ []) d h = refl
one-token (t ∷ u ∷ ts) d h = absurd (let e : suc (suc (length ts)) ≡ 1 = h in omega arith)
