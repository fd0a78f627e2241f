-- Names each behind a blank, one after another.
use Rattle.cw_logs.proofs.Terms.{◌≡◌, ◌≢◌, ℕ, suc, ◌+◌, ◌≤◌, true, List, [], ◌∷◌, ◌++◌, length, refl, sym, ◌∙◌, ap}
use Rattle.cw_logs.proofs.Terms.{arith, append_assoc, length-append, flat_map, nat_tests, common_steps, blank_and}
use Rattle.cw_logs.proofs.Terms.{is_identifier, HasName, NoName, AreNames, AreIdentifiers}
use Rattle.cw_logs.proofs.{Cutting.all-append, Cutting.all-cons, Telling.names-blanked}

-- The text is so many names and then the rest.
pub record Counted (text rest : List ℕ) (count : ℕ) : Type 0 where
  pub names : List (List ℕ)
  pub fine : AreIdentifiers names
  pub many : length names ≡ count
  pub is : text ≡ flat_map blank_and names ++ rest

-- The text is names, each behind a blank.
pub record Later (text : List ℕ) : Type 0 where
  pub names : List (List ℕ)
  pub fine : AreIdentifiers names
  pub is : text ≡ flat_map blank_and names

pub none-counted : (text : List ℕ) → Counted text text 0
none-counted text = record { names = []; fine = λ i d lt. absurd (omega arith); many = refl; is = refl }

names-append : (xs ys : List (List ℕ)) → flat_map blank_and (xs ++ ys) ≡ flat_map blank_and xs ++ flat_map blank_and ys
names-append [] ys = refl
names-append (x ∷ xs) ys = grind (arith, names-append xs ys, append_assoc)

append-none : (xs : List ℕ) → xs ++ [] ≡ xs
append-none [] = refl
append-none (x ∷ xs) = ap (λ ys. x ∷ ys) (append-none xs)

pub one-counted : (text rest name tail : List ℕ) (count : ℕ) → Counted text rest count → HasName rest name tail
    → Counted text tail (count + 1)
one-counted text rest name tail count c h = record {
  names = c.names ++ name ∷ [];
  fine = all-append (λ n. is_identifier n ≡ true) c.names
      (name ∷ []) c.fine (all-cons (λ n. is_identifier n ≡ true) name [] h.fine (λ i d lt. absurd (omega arith)));
  many = length-append c.names (name ∷ []) ∙ ap (λ n. n + 1) c.many;
  is = grind (arith, append_assoc, append-none, names-append);
}

pub one-later : (rest name tail : List ℕ) → HasName rest name tail → Later rest → Later tail
one-later rest name tail h l = go l.names l.fine l.is
  where
    go : (names : List (List ℕ)) → AreIdentifiers names → rest ≡ flat_map blank_and names → Later tail
    go [] fine is = let e : 32 ∷ name ++ tail ≡ [] = sym h.is ∙ is in absurd cc
    go (n ∷ ns) fine is = record {
      names = ns;
      fine = λ i d lt. fine (suc i) d (omega arith);
      is = sym (h.alone n (flat_map blank_and ns) (fine 0 n (omega arith)) (names-blanked ns) is);
    }

pub none-later : (rest : List ℕ) → rest ≢ [] → NoName rest → Later rest → ⊥
none-later rest some none l = grind (arith, nat_tests, common_steps, names-blanked)

pub all-counted : (text : List ℕ) (count : ℕ) → Counted text [] count → AreNames text count
all-counted text count c = grind (arith, append-none)

pub name-shorter : (text name rest : List ℕ) → HasName text name rest → length rest + 1 ≤ length text
name-shorter text name rest h = grind (arith, length-append)
