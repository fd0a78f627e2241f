-- The categories after a production.
use Rattle.cw_table.proofs.Terms.{◌≡◌, ℕ, ◌+◌, false, Option, List, ◌∷◌, ◌++◌, take, drop, arith, Flags, Scrap, Row}
use Rattle.cw_table.proofs.Terms.{result_at, reserves, rewritten, is_some, nat_tests, cats_of, new_scrap, search_in}
use Rattle.cw_table.proofs.Terms.{worded_at, named_right, rewrite_from, State, rewrite}
use Rattle.cw_table.proofs.ScrapFacts.{cats-append, cats-take, cats-drop, at-cats}

new-cat : (f : Flags) (r : Row) (xs : List Scrap) → (new_scrap f r xs).cat ≡ result_at r.result (cats_of xs)
new-cat f r xs = grind (arith, nat_tests)

-- the scraps to the right of the new one
abbrev pub right_after : Row → List Scrap → List Scrap
right_after r ps = named_right (search_in r.action.reserve ps)
    (drop (r.offset + r.replaced) (worded_at r.action ps))

pub from-cats : (f : Flags) (r : Row) (ps : List Scrap) → cats_of (rewrite_from f r ps)
    ≡ take r.offset (cats_of ps) ++ result_at r.result (cats_of ps) ∷ cats_of (right_after r ps)
from-cats f r ps = grind (arith, nat_tests, cats-append, cats-take, at-cats, new-cat)

-- after a production the categories have the form of which the safe distance speaks
pub rewritten-cats : (f : Flags) (r : Row) (i : ℕ) (st : State) → cats_of (rewrite f r i st).scraps
    ≡ rewritten r i (cats_of st.scraps) (cats_of (right_after r (drop i st.scraps)))
rewritten-cats f r i st = grind (arith, nat_tests, cats-append, cats-take, from-cats, cats-drop)

kept-right : (o : Option ℕ) (ps qs : List Scrap) → is_some o ≡ false → named_right (search_in o ps) qs ≡ qs
kept-right x1 ps qs h = grind (arith, nat_tests)

-- where the row reserves nothing, what stands to the right is as before
pub right-kept : (r : Row) (i : ℕ) (st : State) → reserves r ≡ false → cats_of (right_after r (drop i st.scraps))
    ≡ drop (r.offset + r.replaced) (drop i (cats_of st.scraps))
right-kept r i st h = grind (arith, nat_tests, kept-right, cats-drop, at-cats)
