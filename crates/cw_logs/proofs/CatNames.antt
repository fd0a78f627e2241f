-- Each category stands in the list of all.
use Rattle.cw_logs.proofs.Terms.{◌≡◌, ◌≢◌, ℕ, ◌+◌, ◌<◌, ◌≤◌, List, get_or, sym, ◌∙◌, ap, arith, Bool, false, ◌↔◌}
use Rattle.cw_logs.proofs.Terms.{IsTrue, eqb_tells, Cat, End, all_cats, number_of, cat_text}

pub at-number : (c : Cat) → get_or all_cats (number_of c) End ≡ c
at-number c = grind arith

pub within : (c : Cat) → number_of c < 56
within c = grind arith

pub no-cat : (name : List ℕ) (count : ℕ) → ((i : ℕ) → i < count → name ≢ cat_text (get_or all_cats i End)) → 56 ≤ count
    → (cat : Cat) → name ≢ cat_text cat
no-cat name count none all cat is =
    none (number_of cat) (omega (arith, within cat, all)) (is ∙ ap cat_text (sym (at-number cat)))

pub one-more-cat : (name : List ℕ) (count : ℕ) (cat : Cat) (found : Bool)
    → ((i : ℕ) → i < count → name ≢ cat_text (get_or all_cats i End)) → (IsTrue found ↔ (name ≡ cat_text cat)) → found
    ≡ false → get_or all_cats count End ≡ cat → (i : ℕ) → i < count + 1 → name ≢ cat_text (get_or all_cats i End)
one-more-cat name count cat found none named fails here i below is = grind (arith, eqb_tells)
