-- Depths of braces: of trees whose first identifier was reserved, and of ends of scraps.
use Rattle.cw_brace_laws.proofs.Terms.{◌≡◌, ℕ, Option, Some, refl, ap, arith, MathMode, Math, Maybe, first_mode, after}
use Rattle.cw_brace_laws.proofs.Terms.{Leaf, Tree, Empty, Then, Sub, Inner, Search, search_leaf, first_ident}
use Rattle.cw_brace_laws.proofs.Terms.{reserve_first, leads_on, outside, depth_of, EndsAt, nat_tests}

pub same-leads : (o : Option ℕ) (f g : ℕ → Option ℕ) → ((d : ℕ) → f d ≡ g d) → leads_on o f ≡ leads_on o g
same-leads o f g h = grind (arith, nat_tests)

-- where something led to, something else leads on
pub leads-to : (o : Option ℕ) (d : ℕ) (next : ℕ → Option ℕ) → o ≡ Some d → leads_on o next ≡ next d
leads-to o d next h = ap (λ p. leads_on p next) h

-- ## Reserving

then-depth : (s : Search) (leaf : Leaf) (rest : Tree) (d : ℕ) → search_leaf leaf ≡ s
    → ((n : ℕ) → depth_of (reserve_first rest) n ≡ depth_of rest n)
    → depth_of (reserve_first (Then leaf rest)) d ≡ depth_of (Then leaf rest) d
then-depth s leaf rest d e rec = grind (arith, nat_tests, same-leads)

sub-depth : (s : Search) (tree rest : Tree) (d : ℕ) → first_ident tree ≡ s → ((n : ℕ) → depth_of (reserve_first tree) n
    ≡ depth_of tree n) → ((n : ℕ) → depth_of (reserve_first rest) n ≡ depth_of rest n)
    → depth_of (reserve_first (Sub tree rest)) d ≡ depth_of (Sub tree rest) d
sub-depth s tree rest d e here rec = grind (arith, nat_tests, same-leads)

pub reserve-depth : (t : Tree) (d : ℕ) → depth_of (reserve_first t) d ≡ depth_of t d
reserve-depth Empty d = refl
reserve-depth (Then leaf rest) d = then-depth (search_leaf leaf) leaf rest d refl (λ n. reserve-depth rest n)
reserve-depth (Sub tree rest) d = sub-depth (first_ident tree) tree rest d refl (λ n. reserve-depth tree n)
    (λ n. reserve-depth rest n)
reserve-depth (Inner tree rest) d = same-leads (leads_on (leads_on (outside d) (depth_of tree)) outside)
    (depth_of (reserve_first rest)) (depth_of rest) (λ n. reserve-depth rest n)

-- ## Ends

pub ends-maybe : (d : ℕ) → EndsAt d Maybe
ends-maybe d = grind (arith, nat_tests)

pub ends-math : (d : ℕ) → EndsAt d Math
ends-math d = grind (arith, nat_tests)

pub first-ends : (d : ℕ) (first later : MathMode) → EndsAt d first → EndsAt d later → EndsAt d (first_mode first later)
first-ends d first later f l = grind (arith, nat_tests)

pub after-ends : (d : ℕ) (mode left right : MathMode) → EndsAt d mode → EndsAt d right
    → EndsAt d (after mode left right)
after-ends d mode left right m r = grind (arith, nat_tests)
