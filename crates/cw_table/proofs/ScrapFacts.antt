-- Facts on lists of scraps: their weights, their categories, and whether each is fine.
use Rattle.cw_table.proofs.Terms.{◌≡◌, ℕ, zero, suc, ◌+◌, ◌*◌, ◌<◌, ◌≤◌, Bool, true, ◌&&◌, Option, None, List, [], ◌∷◌}
use Rattle.cw_table.proofs.Terms.{◌++◌, map, length, get_or, take, drop, set, refl, sym, ◌∙◌, ap, arith, add_assoc}
use Rattle.cw_table.proofs.Terms.{zero-add, take-append-drop, list_all, nat_tests, both, both-left, both-right, Cat}
use Rattle.cw_table.proofs.Terms.{End, rank, MathMode, Source, Ident, Reserved, Sign, Tree, Empty, Then, Sub, Inner}
use Rattle.cw_table.proofs.Terms.{bare_name, Search, reserve_first, Scrap, no_scrap, JoinPiece, Whole, Mark, toggled}
use Rattle.cw_table.proofs.Terms.{joined_tree, needs, Action, is_exp, cats_of, reserved_in, bolded, worded_at}
use Rattle.cw_table.proofs.Terms.{named_scrap, named_right, rank_with, weight_of, weight, fine_with, is_fine}
use Rattle.std.specs.Prelude.{nat_eq, false}
use Rattle.std.specs.Option.{option_map_or}

-- tests of lists

pub all-append : {A : Type 0} (p : A → Bool) (xs ys : List A) → list_all p xs ≡ true → list_all p ys ≡ true
    → list_all p (xs ++ ys) ≡ true
all-append p [] ys h k = k
all-append p (x ∷ xs) ys h k = both (p x) _ (both-left (p x) _ h) (all-append p xs ys (both-right (p x) _ h) k)

pub all-take : {A : Type 0} (p : A → Bool) (n : ℕ) (xs : List A) → list_all p xs ≡ true → list_all p (take n xs) ≡ true
all-take p zero xs h = refl
all-take p (suc n) [] h = refl
all-take p (suc n) (x ∷ xs) h = both (p x) _ (both-left (p x) _ h) (all-take p n xs (both-right (p x) _ h))

pub all-drop : {A : Type 0} (p : A → Bool) (n : ℕ) (xs : List A) → list_all p xs ≡ true → list_all p (drop n xs) ≡ true
all-drop p zero xs h = h
all-drop p (suc n) [] h = refl
all-drop p (suc n) (x ∷ xs) h = all-drop p n xs (both-right (p x) _ h)

pub all-set : {A : Type 0} (p : A → Bool) (xs : List A) (n : ℕ) (y : A) → p y ≡ true → list_all p xs ≡ true
    → list_all p (set xs n y) ≡ true
all-set p [] n y k h = refl
all-set p (x ∷ xs) zero y k h = both (p y) _ k (both-right (p x) _ h)
all-set p (x ∷ xs) (suc n) y k h = both (p x) _ (both-left (p x) _ h) (all-set p xs n y k (both-right (p x) _ h))

pub all-get : {A : Type 0} (p : A → Bool) (xs : List A) (n : ℕ) (d : A) → n < length xs → list_all p xs ≡ true
    → p (get_or xs n d) ≡ true
all-get p [] n d k h = absurd (omega arith)
all-get p (x ∷ xs) zero d k h = both-left (p x) _ h
all-get p (x ∷ xs) (suc n) d k h = all-get p xs n d (omega arith) (both-right (p x) _ h)

pub fine-at : (xs : List Scrap) (n : ℕ) → list_all is_fine xs ≡ true → is_fine (get_or xs n no_scrap) ≡ true
fine-at [] n h = refl
fine-at (x ∷ xs) zero h = both-left _ _ h
fine-at (x ∷ xs) (suc n) h = fine-at xs n (both-right _ _ h)

pub all-map : {A : Type 0} (p : A → Bool) (f : A → A) → ((x : A) → p x ≡ true → p (f x) ≡ true) → (xs : List A)
    → list_all p xs ≡ true → list_all p (map f xs) ≡ true
all-map p f keeps [] h = refl
all-map p f keeps (x ∷ xs) h = both (p (f x)) _ (keeps x (both-left (p x) _ h))
    (all-map p f keeps xs (both-right (p x) _ h))

-- ranks
pub rank_with-none : (c : Cat) → rank_with c None ≡ rank c
rank_with-none x1 = grind (arith, nat_tests)

pub rank_with-least : (c : Cat) (b : Option ℕ) → rank c ≤ rank_with c b
rank_with-least x1 x2 = grind (arith, nat_tests)

pub rank_with-most : (c : Cat) (b : Option ℕ) → rank_with c b ≤ 4
rank_with-most x1 x2 = grind (arith, nat_tests)

pub rank-most : (c : Cat) → rank c ≤ 3
rank-most x1 = grind (arith, nat_tests)

-- a tree whose first identifier was reserved is no bare identifier, nor is a joined one
pub reserve-bare : (t : Tree) → bare_name (reserve_first t) ≡ None
reserve-bare Empty = refl
reserve-bare (Then (Source number mode) rest) = refl
reserve-bare (Then (Ident name number) rest) = refl
reserve-bare (Then (Reserved name number cat) rest) = grind (arith, nat_tests)
reserve-bare (Then (Sign control) rest) = grind (arith, nat_tests)
reserve-bare (Sub tree rest) = grind (arith, nat_tests)
reserve-bare (Inner tree rest) = refl

toggled-bare : (m n : MathMode) (t : Tree) → bare_name t ≡ None → bare_name (toggled m n t) ≡ None
toggled-bare x1 x2 t h = grind (arith, nat_tests)

pub joined-bare : (m : MathMode) (js : List JoinPiece) → bare_name (joined_tree m js) ≡ None
joined-bare m [] = refl
joined-bare m (Whole t l r ∷ js) = toggled-bare m l _ refl
joined-bare m (Mark c ∷ js) = toggled-bare m (needs c) _ refl

-- weights
pub weight-append : (xs ys : List Scrap) → weight (xs ++ ys) ≡ weight xs + weight ys
weight-append [] ys = sym (zero-add (weight ys))
weight-append (x ∷ xs) ys = grind (arith, nat_tests, weight-append xs ys, add_assoc)

pub weight-split : (n : ℕ) (xs : List Scrap) → weight (take n xs) + weight (drop n xs) ≡ weight xs
weight-split n xs = sym (weight-append (take n xs) (drop n xs)) ∙ ap weight (take-append-drop n xs)

pub weight-least : (xs : List Scrap) → 4 * length xs ≤ weight xs
weight-least [] = omega arith
weight-least (x ∷ xs) = omega (arith, weight-least xs)

pub weight-most : (xs : List Scrap) → weight xs ≤ 8 * length xs
weight-most [] = omega arith
weight-most (x ∷ xs) = omega (arith, weight-most xs, rank_with-most x.cat (bare_name x.tree))

pub weight-one : (xs : List Scrap) (n : ℕ) → n < length xs → weight (take 1 (drop n xs))
    ≡ weight_of (get_or xs n no_scrap)
weight-one [] n h = absurd (omega arith)
weight-one (x ∷ xs) zero h = omega arith
weight-one (x ∷ xs) (suc n) h = weight-one xs n (omega arith)

-- categories
pub cats-get : (xs : List Scrap) (n : ℕ) → get_or (cats_of xs) n End ≡ (get_or xs n no_scrap).cat
cats-get [] n = refl
cats-get (x ∷ xs) zero = refl
cats-get (x ∷ xs) (suc n) = cats-get xs n

pub cats-length : (xs : List Scrap) → length (cats_of xs) ≡ length xs
cats-length [] = refl
cats-length (x ∷ xs) = ap suc (cats-length xs)

pub cats-append : (xs ys : List Scrap) → cats_of (xs ++ ys) ≡ cats_of xs ++ cats_of ys
cats-append [] ys = refl
cats-append (x ∷ xs) ys = ap (λ cs. x.cat ∷ cs) (cats-append xs ys)

pub cats-take : (n : ℕ) (xs : List Scrap) → cats_of (take n xs) ≡ take n (cats_of xs)
cats-take zero xs = refl
cats-take (suc n) [] = refl
cats-take (suc n) (x ∷ xs) = ap (λ cs. x.cat ∷ cs) (cats-take n xs)

pub cats-drop : (n : ℕ) (xs : List Scrap) → cats_of (drop n xs) ≡ drop n (cats_of xs)
cats-drop zero xs = refl
cats-drop (suc n) [] = refl
cats-drop (suc n) (x ∷ xs) = cats-drop n xs

-- reserving in a scrap
pub reserved-fine : (s : Scrap) → is_fine (reserved_in s) ≡ true
reserved-fine s = ap (λ b. fine_with s.cat b) (reserve-bare s.tree)

pub reserved-weight : (s : Scrap) → weight_of (reserved_in s) ≤ weight_of s
reserved-weight s = grind (arith, nat_tests, reserve-bare, rank_with-none, rank_with-least)

bolded-cat : (s : Scrap) → (bolded s).cat ≡ s.cat
bolded-cat s = grind (arith, nat_tests)

bolded-fine : (s : Scrap) → is_fine s ≡ true → is_fine (bolded s) ≡ true
bolded-fine s h = grind (arith, nat_tests, reserved-fine)

bolded-weight : (s : Scrap) → weight_of (bolded s) ≤ weight_of s
bolded-weight s = grind (arith, nat_tests, reserved-weight)

-- in one of the scraps something is done that changes no category, raises no weight and keeps it fine
module _ (f : Scrap → Scrap) where
  set-cats : ((s : Scrap) → (f s).cat ≡ s.cat) → (xs : List Scrap) (n : ℕ)
      → cats_of (set xs n (f (get_or xs n no_scrap))) ≡ cats_of xs
  set-cats keeps [] n = refl
  set-cats keeps (x ∷ xs) zero = ap (λ c. c ∷ cats_of xs) (keeps x)
  set-cats keeps (x ∷ xs) (suc n) = ap (λ cs. x.cat ∷ cs) (set-cats keeps xs n)

  set-weight : ((s : Scrap) → weight_of (f s) ≤ weight_of s) → (xs : List Scrap) (n : ℕ)
      → weight (set xs n (f (get_or xs n no_scrap))) ≤ weight xs
  set-weight falls [] n = omega arith
  set-weight falls (x ∷ xs) zero = omega (arith, falls x)
  set-weight falls (x ∷ xs) (suc n) = omega (arith, set-weight falls xs n)

  set-fine : ((s : Scrap) → is_fine s ≡ true → is_fine (f s) ≡ true) → (xs : List Scrap) (n : ℕ)
      → list_all is_fine xs ≡ true → list_all is_fine (set xs n (f (get_or xs n no_scrap))) ≡ true
  set-fine keeps xs n h = all-set is_fine xs n (f (get_or xs n no_scrap)) (keeps _ (fine-at xs n h)) h

pub at-cats : (action : Action) (xs : List Scrap) → cats_of (worded_at action xs) ≡ cats_of xs
at-cats action xs = grind (arith, nat_tests, set-cats reserved_in (λ s. refl), set-cats bolded bolded-cat)

pub at-weight : (action : Action) (xs : List Scrap) → weight (worded_at action xs) ≤ weight xs
at-weight action xs =
    grind (arith, nat_tests, set-weight reserved_in reserved-weight, set-weight bolded bolded-weight)

pub at-fine : (action : Action) (xs : List Scrap) → list_all is_fine xs ≡ true
    → list_all is_fine (worded_at action xs) ≡ true
at-fine action xs h =
    grind (arith, nat_tests, set-fine reserved_in (λ s h. reserved-fine s), set-fine bolded bolded-fine)

pub at-length : (action : Action) (xs : List Scrap) → length (worded_at action xs) ≡ length xs
at-length action xs = sym (cats-length (worded_at action xs)) ∙ ap length (at-cats action xs) ∙ cats-length xs

-- the scraps to the right
exp-named : (c : Cat) (b : Option ℕ) (name : ℕ) → (is_exp c && option_map_or (λ bare. nat_eq bare name) b false) ≡ true
    → rank_with c b ≡ 4
exp-named x1 b name h = grind (arith, nat_tests)

named-weight : (name : ℕ) (s : Scrap) → weight_of (named_scrap name s) ≤ weight_of s
named-weight name s = grind (arith, nat_tests, exp-named)

named-fine : (name : ℕ) (s : Scrap) → is_fine s ≡ true → is_fine (named_scrap name s) ≡ true
named-fine name s h = grind (arith, nat_tests, reserve-bare)

map-weight : (name : ℕ) (xs : List Scrap) → weight (map (named_scrap name) xs) ≤ weight xs
map-weight name [] = omega arith
map-weight name (x ∷ xs) = omega (arith, map-weight name xs, named-weight name x)

pub right-weight : (s : Search) (xs : List Scrap) → weight (named_right s xs) ≤ weight xs
right-weight x1 xs = grind (arith, nat_tests, map-weight)

pub right-fine : (s : Search) (xs : List Scrap) → list_all is_fine xs ≡ true → list_all is_fine (named_right s xs)
    ≡ true
right-fine x1 xs h = grind (arith, nat_tests, all-map, named-fine)

map-length : (f : Scrap → Scrap) (xs : List Scrap) → length (map f xs) ≡ length xs
map-length f [] = refl
map-length f (x ∷ xs) = ap suc (map-length f xs)

pub right-length : (s : Search) (xs : List Scrap) → length (named_right s xs) ≡ length xs
right-length x1 xs = grind (arith, nat_tests, map-length)
