-- The code's test of pairs, on sets of categories, is that of the pairs themselves.
use Rattle.cw_table.proofs.Terms.{◌≡◌, ◌<◌, ◌≤◌, ◌+◌, ◌∙◌, sym, ap, ℕ, zero, suc, Bool, true, false, not, List, [], ◌∷◌}
use Rattle.cw_table.proofs.Terms.{◌++◌, map, refl, arith, ◌&&◌, ◌||◌, eq-eqb, add-zero, get_or, length, take, take_all}
use Rattle.cw_table.proofs.Terms.{flat_map, list_all, list_any, filter, ne_eqb, list_any_at, list_any_more, nat_tests}
use Rattle.cw_table.proofs.Terms.{common_steps, Cat, CatSet, all_cats, in_set, any-same, Is, SameAs, Row, test, brings}
use Rattle.cw_table.proofs.Terms.{is_hazard, members, pairs_by, pairs_of, sees_moved, numbers_from}
use Rattle.cw_base.specs.Category.{leaves, meet, some_of}
use Rattle.cw_table.specs.Safe.{endangers}
use Rattle.cw_table.proofs.SafeLaws.{any-map, filter-no, filter-yes, other-pairs, same-pairs}

pub and-yes : (a x y : Bool) → a ≡ true → x ≡ y → x ≡ (a && y)
and-yes x1 x y h e = grind (arith, nat_tests)

pub and-no : (a x y : Bool) → a ≡ false → x ≡ a → x ≡ (a && y)
and-no x1 x y h e = grind (arith, nat_tests)

pub not-all-numbers : (p : ℕ → Bool) (first n i : ℕ) → i < n → p (first + i) ≡ false → list_all p (numbers_from first n)
    ≡ false
not-all-numbers p first zero i lt h = absurd (omega arith)
not-all-numbers p first (suc n) zero lt h = grind (arith, nat_tests, add-zero)
not-all-numbers p first (suc n) (suc i) lt h =
    let e : suc first + i ≡ first + suc i = omega arith in
    fails (p first) _ (not-all-numbers p (suc first) n i (omega arith) (ap p e ∙ h))
  where
    fails : (a b : Bool) → b ≡ false → (a && b) ≡ false
    fails true b h = h
    fails false b h = refl

filter-any : {X : Type 0} (p q : X → Bool) (xs : List X) → list_any p (filter q xs) ≡ list_any (λ x. q x && p x) xs
filter-any p q [] = refl
filter-any p q (x ∷ xs) = grind (arith, nat_tests, filter-any p q xs, filter-yes, filter-no)

member-any : (p : Cat → Bool) (s : CatSet) → list_any p (members s) ≡ list_any (λ c. in_set s c && p c) all_cats
member-any p s = filter-any p (in_set s) all_cats

or-assoc : (a b c : Bool) → ((a || b) || c) ≡ (a || (b || c))
or-assoc x1 b c = grind (arith, nat_tests)

any-joined : {X : Type 0} (p : X → Bool) (xs ys : List X) → list_any p (xs ++ ys) ≡ (list_any p xs || list_any p ys)
any-joined p [] ys = refl
any-joined p (x ∷ xs) ys = ap (λ b. p x || b) (any-joined p xs ys) ∙ sym (or-assoc (p x) _ _)

flat-any : {X Y : Type 0} (p : Y → Bool) (f : X → List Y) (xs : List X) → list_any p (flat_map f xs)
    ≡ list_any (λ x. list_any p (f x)) xs
flat-any p f [] = refl
flat-any p f (x ∷ xs) = any-joined p (f x) (flat_map f xs) ∙ ap (λ b. list_any p (f x) || b) (flat-any p f xs)

-- one element more in the three forms of the test
news-step : (a q f m l s : Bool) → ((q && (a && (f || m))) || (a && (l || (m && s))))
    ≡ (a && (((q && f) || l) || (m && (q || s))))
news-step x1 x2 f m l s = grind (arith, nat_tests)

news-any : (a m : Bool) (q f : Cat → Bool) (xs : List Cat) → list_any (λ c. q c && (a && (f c || m))) xs
    ≡ (a && (list_any (λ c. q c && f c) xs || (m && list_any q xs)))
news-any a m q f (x ∷ xs) = grind (arith, nat_tests, news-any a m q f xs, news-step)
news-any true true q f [] = refl
news-any _ _ _ _ _ = refl

moved-step : (b x m l : Bool) → ((b && (x && (not x || m))) || (m && l)) ≡ (m && ((b && x) || l))
moved-step x1 x m l = grind (arith, nat_tests)

moved-any : (m : Bool) (q f : Cat → Bool) (xs : List Cat) → list_any (λ c. q c && (f c && (not (f c) || m))) xs
    ≡ (m && list_any (λ c. q c && f c) xs)
moved-any true q f [] = refl
moved-any false q f [] = refl
moved-any m q f (x ∷ xs) = grind (arith, nat_tests, moved-any m q f xs, moved-step)

with-step : (k t z l : Bool) → ((k && (t && z)) || (l && z)) ≡ (((k && t) || l) && z)
with-step x1 t z l = grind (arith, nat_tests)

with-any : (z : Bool) (q f : Cat → Bool) (xs : List Cat) → list_any (λ c. q c && (f c && z)) xs
    ≡ (list_any (λ c. q c && f c) xs && z)
with-any z q f [] = refl
with-any z q f (x ∷ xs) = ap (λ b. (q x && (f x && z)) || b) (with-any z q f xs) ∙ with-step (q x) (f x) z _

module _ (row other : Row) (q : ℕ) where
  abbrev old : CatSet
  old = test row row.offset

  abbrev admitted : CatSet
  admitted = test other q

  abbrev moved : Bool
  moved = sees_moved row other q

  abbrev news : Bool
  news = leaves old admitted || (moved && some_of old)

  news-members : (a : Bool) → list_any (λ c. a && (not (in_set admitted c) || moved)) (members old) ≡ (a && news)
  unfolding leaves some_of
  news-members a = member-any (λ c. a && (not (in_set admitted c) || moved)) old
      ∙ news-any a moved (in_set old) (λ c. not (in_set admitted c)) all_cats

  pub pairs-is : (new : Cat) → row.result ≡ Is new → list_any (brings row other q) (pairs_of row)
      ≡ (in_set admitted new && news)
  pairs-is new e = grind (arith, nat_tests, common_steps, news-members (in_set admitted new), any-map, news-members)

  pub pairs-same : (k : ℕ) → row.result ≡ SameAs k → k ≡ row.offset → list_any (brings row other q) (pairs_of row)
      ≡ (moved && meet old admitted)
  unfolding meet
  pairs-same k e same = ap (λ result. list_any (brings row other q) (pairs_by result row)) e
      ∙ ap (list_any (brings row other q)) (same-pairs row k (eq-eqb _ _ same)) ∙ any-map (brings row other q)
      (λ c. (c, c)) (members old) ∙ member-any (λ c. in_set admitted c && (not (in_set admitted c) || moved)) old
      ∙ moved-any moved (in_set old) (in_set admitted) all_cats

  pub pairs-other : (k : ℕ) → row.result ≡ SameAs k → (k ≡ row.offset → ⊥)
      → list_any (brings row other q) (pairs_of row) ≡ (meet (test row k) admitted && news)
  unfolding meet
  pairs-other k e differs = ap (λ result. list_any (brings row other q) (pairs_by result row)) e ∙ ap (list_any
      (brings row other q)) (other-pairs row k (ne_eqb _ _ differs)) ∙ flat-any (brings row other q) (λ o. map (λ n.
      (o, n)) (members (test row k))) (members old) ∙ any-same _ _ (members old) (λ o. any-map (brings row other q)
      (λ n. (o, n)) (members (test row k)) ∙ member-any (λ n. in_set admitted n && (not (in_set admitted o) || moved))
      (test row k) ∙ with-any (not (in_set admitted o) || moved) (in_set (test row k)) (in_set admitted) all_cats)
      ∙ news-members (list_any (λ c. in_set (test row k) c && in_set admitted c) all_cats)

-- The same, of the values that the code has computed.

pub is-joined : (row other : Row) (q : ℕ) (new : Cat) (o t : CatSet) (m h : Bool) → row.result ≡ Is new
    → o ≡ test row row.offset → t ≡ test other q → m ≡ sees_moved row other q → h ≡ in_set t new
    → (h && (leaves o t || (m && some_of o))) ≡ list_any (brings row other q) (pairs_of row)
is-joined row other q new o t m h e eo et em eh = grind (arith, nat_tests, pairs-is)

pub same-joined : (row other : Row) (q k : ℕ) (o t : CatSet) (m h : Bool) → row.result ≡ SameAs k → k ≡ row.offset
    → o ≡ test row row.offset → t ≡ test other q → m ≡ sees_moved row other q → h ≡ meet o t → (m && h)
    ≡ list_any (brings row other q) (pairs_of row)
same-joined row other q k o t m h e at eo et em eh = grind (arith, nat_tests, pairs-same)

pub other-joined : (row other : Row) (q k : ℕ) (o t s : CatSet) (m h : Bool) → row.result ≡ SameAs k
    → (k ≡ row.offset → ⊥) → o ≡ test row row.offset → t ≡ test other q → s ≡ test row k → m ≡ sees_moved row other q
    → h ≡ meet s t → (h && (leaves o t || (m && some_of o))) ≡ list_any (brings row other q) (pairs_of row)
other-joined row other q k o t s m h e apart eo et es em eh = grind (arith, nat_tests, pairs-other)

-- Going over the rows.

pub endangered-some : (rows now : List Row) (row : Row) (places i : ℕ) (d : Row) → rows ≡ now → i < length rows
    → is_hazard row (get_or rows i d) places ≡ true → true ≡ endangers now row places
unfolding endangers
endangered-some rows now row places i d view lt h = grind (arith, nat_tests, list_any_at)

pub endangered-none : (rows now : List Row) (row : Row) (places i : ℕ) → rows ≡ now → length rows ≤ i
    → list_any (λ other. is_hazard row other places) (take i rows) ≡ false → false ≡ endangers now row places
unfolding endangers
endangered-none rows now row places i view past h = grind (arith, nat_tests, take_all)

pub none-more : (rows : List Row) (row : Row) (places i : ℕ) (d : Row) → i < length rows
    → list_any (λ other. is_hazard row other places) (take i rows) ≡ false → is_hazard row (get_or rows i d) places
    ≡ false → list_any (λ other. is_hazard row other places) (take (i + 1) rows) ≡ false
none-more rows row places i d lt h k = grind (arith, nat_tests, common_steps, list_any_more)
