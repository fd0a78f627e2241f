-- The classes stand in their order, and a class by its value.
use Rattle.cw_index.proofs.Terms.{◌≡◌, ℕ, refl, sym, arith, Equal, nat_cmp_is, nat_cmp, class_cmp}
use Rattle.cw_index.specs.declared.collation.Class.{Class}
use Rattle.cw_index.specs.contracts.collation.ClassOrd.TheImpl as class_ord

pub class_cmp-is : (x y : Class) → (class_ord.ghosts).cmp x y ≡ class_cmp x y
class_cmp-is x y = grind arith

cmp-same : (n : ℕ) → nat_cmp n n ≡ Equal
cmp-same n = sym (nat_cmp_is n n Equal refl)

pub class_cmp-same : (x : Class) → class_cmp x x ≡ Equal
class_cmp-same x = grind (arith, cmp-same)
