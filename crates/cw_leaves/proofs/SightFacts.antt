-- Laws of what is seen of trees and scraps.
use Rattle.cw_leaves.proofs.Terms.{◌≡◌, ℕ, Bool, true, false, List, [], ◌∷◌, refl, arith, MathMode, Leaf, Tree, Empty}
use Rattle.cw_leaves.proofs.Terms.{Then, Sub, Inner, Search, Found, Stopped, Nothing, search_leaf, first_ident}
use Rattle.cw_leaves.proofs.Terms.{reserve_first, toggled}
use Rattle.cw_leaves.specs.Sights.{heard, reserved}

-- what a search finds among what is heard
abbrev pub found_in : List ℕ → Bool → Search
found_in [] true = Stopped
found_in [] false = Nothing
found_in (name ∷ names) stops = Found name

-- a search finds the first name that is heard
pub first-heard : (tree : Tree) → first_ident tree ≡ found_in (heard tree).names (heard tree).stops
first-heard Empty = refl
first-heard (Then leaf rest) = grind (arith, first-heard rest)
first-heard (Sub tree rest) = grind (arith, first-heard rest, first-heard tree)
first-heard (Inner tree rest) = first-heard rest

then-reserved : (s : Search) (leaf : Leaf) (rest : Tree) → search_leaf leaf ≡ s → heard (reserve_first rest)
    ≡ reserved (heard rest) → heard (reserve_first (Then leaf rest)) ≡ reserved (heard (Then leaf rest))
then-reserved s leaf rest e h = grind (arith)

pub heard-reserved : (t : Tree) → heard (reserve_first t) ≡ reserved (heard t)
heard-reserved Empty = refl
heard-reserved (Then leaf rest) = then-reserved (search_leaf leaf) leaf rest refl (heard-reserved rest)
heard-reserved (Sub tree rest) = grind (arith, heard-reserved tree, heard-reserved rest, first-heard)
heard-reserved (Inner tree rest) = heard-reserved rest

-- toggles say nothing
pub heard-toggled : (m n : MathMode) (t : Tree) → heard (toggled m n t) ≡ heard t
heard-toggled m n t = grind arith
