-- Whether something is there, said in two ways.
use Rattle.cw_texts.proofs.Terms.{◌≡◌, Bool, true, false, ◌↔◌, IsTrue, Option, Some, None, refl, sym, is_some}
use Rattle.cw_texts.proofs.Terms.{option_map}

pub alike : (a b : Bool) → (IsTrue a ↔ IsTrue b) → a ≡ b
alike true b same = sym (same.0 refl)
alike false true same = same.1 refl
alike false false same = refl

pub mapped : {A B : Type 0} (f : A → B) (o : Option A) → is_some (option_map f o) ≡ is_some o
mapped f None = refl
mapped f (Some x) = refl
