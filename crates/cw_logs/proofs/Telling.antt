-- The lines of a log tell its blocks.
use Rattle.cw_logs.proofs.Terms.{◌≡◌, ℕ, suc, true, List, [], ◌∷◌, ◌++◌, if◌then◌else◌, length, eqb, nat_eq, map}
use Rattle.cw_logs.proofs.Terms.{All, refl, sym, ◌∙◌, ap, arith, flat_map, decimal, pointwise, decimal_injective}
use Rattle.cw_logs.proofs.Terms.{append_assoc, both-left, both-right, Cat, all_cats, Production, LeafKind, Line}
use Rattle.cw_logs.proofs.Terms.{letter, cat_text, blank_and, line_text, head_text, item_text, end_text, log_lines}
use Rattle.cw_logs.proofs.Terms.{IsFineLine, IsFineItem, IsFineBlock, lacks, IsBlanked, nothing, something}
use Rattle.cw_logs.proofs.Terms.{AreIdentifiers, BlocksAreTold}
use Rattle.cw_logs.proofs.Decimals.{head-injective, item-not-end}
use Rattle.cw_logs.proofs.Plain.{cat-blank, name-lacks, decimal-lacks, no-blank}
use Rattle.cw_base.specs.declared.category.Cat.TheVariants as cats
use Rattle.cw_leaves.specs.declared.kinds.LeafKind.TheVariants as leaf

head-of : {A : Type 0} (a b : A) (xs ys : List A) → ◌≡◌ {A = List A} (a ∷ xs) (b ∷ ys) → a ≡ b
head-of a b xs ys e = cc

tail-of : {A : Type 0} (a b : A) (xs ys : List A) → ◌≡◌ {A = List A} (a ∷ xs) (b ∷ ys) → xs ≡ ys
tail-of a b xs ys e = cc

-- a category by its name
cat_in : List Cat → List ℕ → Cat
cat_in [] text = cats.End
cat_in (c ∷ cs) text = if pointwise nat_eq (cat_text c) text then c else cat_in cs text

cat-back : (c : Cat) → cat_in all_cats (cat_text c) ≡ c
unfolding cat_in
cat-back c = grind arith

pub cat-injective : (c d : Cat) → cat_text c ≡ cat_text d → c ≡ d
cat-injective c d e = sym (cat-back c) ∙ (ap (cat_in all_cats) e ∙ cat-back d)

letter_in : ℕ → LeafKind
letter_in n = if eqb n 98 then leaf.B else if eqb n 99 then leaf.C else if eqb n 105 then leaf.I else leaf.S

letter-back : (k : LeafKind) → letter_in (letter k) ≡ k
unfolding letter_in
letter-back k = grind arith

pub letter-injective : (k l : LeafKind) → letter k ≡ letter l → k ≡ l
letter-injective k l e = sym (letter-back k) ∙ (ap letter_in e ∙ letter-back l)

-- what stands before the first blank
pub record Same (xs ys zs ws : List ℕ) : Type 0 where
  pub front : xs ≡ ys
  pub back : zs ≡ ws

never-byte : (zs : List ℕ) (c : ℕ) (cs ws : List ℕ) → IsBlanked zs → lacks 32 (c ∷ cs) ≡ true → zs ≡ c ∷ ws → ⊥
never-byte zs c cs ws nothing h e = cc
never-byte zs c cs ws (something bytes) h e = grind (arith, both-left)

pub blanked-same : (xs ys zs ws : List ℕ) → lacks 32 xs ≡ true → lacks 32 ys ≡ true → IsBlanked zs → IsBlanked ws
    → xs ++ zs ≡ ys ++ ws → Same xs ys zs ws
blanked-same [] [] zs ws h k p q e = record { front = refl; back = e }
blanked-same [] (y ∷ ys) zs ws h k p q e = absurd (never-byte zs y ys (ys ++ ws) p k e)
blanked-same (x ∷ xs) [] zs ws h k p q e = absurd (never-byte ws x xs (xs ++ zs) q h (sym e))
blanked-same (x ∷ xs) (y ∷ ys) zs ws h k p q e =
    let s = blanked-same xs ys zs ws (both-right _ _ h) (both-right _ _ k) p q (tail-of x y (xs ++ zs) (ys ++ ws) e) in
    let a = head-of x y _ _ e in
    record { front = ap (λ c. c ∷ xs) a ∙ ap (λ cs. y ∷ cs) s.front; back = s.back }

-- names
pub names-blanked : (names : List (List ℕ)) → IsBlanked (flat_map blank_and names)
names-blanked [] = nothing
names-blanked (name ∷ names) = something (name ++ flat_map blank_and names)

pub names-same : (ns ms : List (List ℕ)) → AreIdentifiers ns → AreIdentifiers ms
    → flat_map blank_and ns ≡ flat_map blank_and ms → ns ≡ ms
names-same [] [] h k e = refl
names-same [] (m ∷ ms) h k e = absurd cc
names-same (n ∷ ns) [] h k e = absurd cc
names-same (n ∷ ns) (m ∷ ms) h k e =
    let s = blanked-same n m (flat_map blank_and ns) (flat_map blank_and ms) (name-lacks 32 refl n (h 0 n (omega
    arith))) (name-lacks 32 refl m (k 0 m (omega arith))) (names-blanked ns) (names-blanked ms) (tail-of 32 32 _ _ e) in
    ap (λ x. x ∷ ns) s.front ∙ ap (λ xs. m ∷ xs)
    (names-same ns ms (λ i d lt. h (suc i) d (omega arith)) (λ i d lt. k (suc i) d (omega arith)) s.back)

pub line-injective : (l m : Line) → IsFineLine l → IsFineLine m → line_text l ≡ line_text m → l ≡ m
line-injective l m h k e =
    let kind : l.kind ≡ m.kind = letter-injective l.kind _ (head-of (letter _) _ _ _ e) in
    let rest = tail-of 32 32 _ _ (tail-of _ _ _ _ e) in
    let s = blanked-same _ _ _ _ (cat-blank _) (cat-blank _) (names-blanked l.names) (names-blanked _) rest in
    ap (λ x. record { kind = x; cat = l.cat; names = l.names })
    kind ∙ (ap (λ x. record { kind = m.kind; cat = x; names = l.names }) (cat-injective _ _ s.front)
    ∙ ap (λ x. record { kind = m.kind; cat = m.cat; names = x }) (names-same _ _ h.names k.names s.back))

pub item-injective : (p q : Production) → IsFineItem p → IsFineItem q → item_text p ≡ item_text q → p ≡ q
item-injective p q h k e =
    let s = blanked-same _ (decimal _) (blank_and _) (blank_and _)
    (decimal-lacks 32 _ no-blank (omega (arith, h.to_last))) (decimal-lacks 32 _ no-blank (omega (arith, k.to_last)))
    (something (decimal _)) (something _) (tail-of 80 80 _ _ e) in
    grind (arith, decimal_injective, tail-of)

-- blocks
record SameLeaves (ls ms : List Line) (xs ys : List (List ℕ)) : Type 0 where
  leaves : ls ≡ ms
  later : xs ≡ ys

leaves-same : (ls ms : List Line) (xs ys : List (List ℕ)) → length ls ≡ length ms → All IsFineLine ls
    → All IsFineLine ms → map line_text ls ++ xs ≡ map line_text ms ++ ys → SameLeaves ls ms xs ys
leaves-same [] [] xs ys n h k e = record { leaves = refl; later = e }
leaves-same (l ∷ ls) (m ∷ ms) xs ys n h k e =
    let s : SameLeaves ls ms xs ys = leaves-same ls ms xs ys (omega (arith, n)) (λ i d lt. h (suc i) d (omega arith))
    (λ i d lt. k (suc i) d (omega arith)) (tail-of (line_text l) (line_text m) _ _ e) in
    record {
      leaves = ap (λ x. x ∷ ls) (line-injective l m (h 0 l (omega arith)) (k 0 m (omega arith))
          (head-of (line_text l) (line_text m) _ _ e)) ∙ ap (λ x. m ∷ x) s.leaves;
      later = s.later;
    }
leaves-same _ _ _ _ n _ _ _ = absurd (omega (arith, n))

record SameItems (ps qs : List Production) (xs ys : List (List ℕ)) : Type 0 where
  items : ps ≡ qs
  later : xs ≡ ys

items-same : (ps qs : List Production) (xs ys : List (List ℕ)) → All IsFineItem ps → All IsFineItem qs
    → map item_text ps ++ end_text ∷ xs ≡ map item_text qs ++ end_text ∷ ys → SameItems ps qs xs ys
items-same [] [] xs ys h k e = record { items = refl; later = tail-of end_text end_text xs ys e }
items-same [] (q ∷ qs) xs ys h k e = absurd (item-not-end q (sym (head-of end_text (item_text q) _ _ e)))
items-same (p ∷ ps) [] xs ys h k e = absurd (item-not-end p (head-of (item_text p) end_text _ _ e))
items-same (p ∷ ps) (q ∷ qs) xs ys h k e =
    let s : SameItems ps qs xs ys = items-same ps qs xs ys (λ i d lt. h (suc i) d (omega arith))
    (λ i d lt. k (suc i) d (omega arith)) (tail-of (item_text p) (item_text q) _ _ e) in
    record {
      items = ap (λ x. x ∷ ps) (item-injective p q (h 0 p (omega arith)) (k 0 q (omega arith))
          (head-of (item_text p) (item_text q) _ _ e)) ∙ ap (λ x. q ∷ x) s.items;
      later = s.later;
    }

pub blocks-are-told : BlocksAreTold
blocks-are-told [] [] h k e = refl
blocks-are-told [] (c ∷ cs) h k e = absurd cc
blocks-are-told (b ∷ bs) [] h k e = absurd cc
blocks-are-told (b ∷ bs) (c ∷ cs) h k e =
    let good : IsFineBlock b = h 0 b (omega arith) in
    let fine : IsFineBlock c = k 0 c (omega arith) in
    let d = sym (grind (arith, append_assoc)) ∙ (e ∙ (grind (arith, append_assoc))) in
    let s = leaves-same b.leaves c.leaves _ _ (head-injective _ _ good.few fine.few (head-of _ _ _ _ d))
    good.leaves fine.leaves (tail-of (head_text (length b.leaves)) (head_text (length c.leaves)) _ _ d) in
    let t = items-same b.items c.items (log_lines bs) (log_lines cs) good.items fine.items s.later in
    ap (λ x. record { leaves = x; items = b.items } ∷ bs) s.leaves ∙ (grind
    (arith, blocks-are-told bs cs (λ i d lt. h (suc i) d (omega arith)) (λ i d lt. k (suc i) d (omega arith)) t.later))
