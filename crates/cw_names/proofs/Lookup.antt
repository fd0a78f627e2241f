-- What the hash table says of the list of entries.
use Rattle.cw_names.proofs.Terms.{◌≡◌, ℕ, zero, suc, ◌+◌, ◌<◌, Bool, true, false, List, [], ◌∷◌, ◌++◌, length, map}
use Rattle.cw_names.proofs.Terms.{Some, None, refl, sym, ap, ◌∙◌, arith, length-append, not, cond, slice_get, subst}
use Rattle.cw_names.proofs.Terms.{IsTrue, position, position_or_len, AllByRecursion, length-map, prefix_len-le-length}
use Rattle.cw_names.proofs.Terms.{keys_of, insert_entry, set_value_at, Cat, Exp, Key, EntryKind, Entry, is_entry}
use Rattle.cw_names.proofs.Terms.{place_of, with_entry, with_category, entry_of, is_wanted, nat_tests}
use Rattle.std.specs.List.{IsDistinct}
use Rattle.std.proofs.lemmas.Bool.{ltb-false, lt-ltb, le-ltb}
use Rattle.cw_names.specs.{contracts.entry.KeyPartialEq.TheImpl.eq-value, declared.entry.NameQuery.NameQuery}
use Rattle.cw_names.specs.{model.Wanting.alike}

-- what `==` says of two keys
abbrev pub key_eq : Key → Key → Bool
key_eq = eq-value.it

key_eq-by : (a b : EntryKind) (k l : Key) (c : Cat) → key_eq (record k { kind = a }) (record l { kind = b })
    ≡ is_entry a k.text.items (entry_of (record l { kind = b }, c))
key_eq-by x1 x2 k l c = grind (arith, nat_tests)

pub key_eq-is : (k : Key) (e : Key × Cat) → key_eq k e.0 ≡ is_entry k.kind k.text.items (entry_of e)
key_eq-is k e = key_eq-by k.kind e.0.kind k e.0 e.1

-- the position of a key is that of its entry
pub place-keys : (k : Key) (es : List (Key × Cat)) → position_or_len (key_eq k) (keys_of es)
    ≡ place_of k.kind k.text.items (map entry_of es)
place-keys k [] = refl
place-keys k (e ∷ es) = grind (arith, nat_tests, place-keys k es, key_eq-is)

-- so is the position of a key that is looked for
place-wanted : (wanted : NameQuery) (es : List (Key × Cat)) → position_or_len (is_wanted wanted) (keys_of es)
    ≡ place_of wanted.kind wanted.text.now (map entry_of es)
place-wanted wanted [] = refl
place-wanted wanted (e ∷ es) = grind (arith, nat_tests, place-wanted wanted es)

pub position-found : {X : Type 0} (test : X → Bool) (xs : List X) (i : ℕ) → position test xs ≡ Some i
    → position_or_len test xs ≡ i
position-found test xs i h = grind (arith, nat_tests)

pub position-none : {X : Type 0} (test : X → Bool) (xs : List X) → position test xs ≡ None → position_or_len test xs
    ≡ length xs
position-none test xs h = grind (arith, nat_tests, ltb-false, prefix_len-le-length)

-- a key without an entry goes last
pub insert_entry-last : (k : Key) (es : List (Key × Cat)) → place_of k.kind k.text.items (map entry_of es) ≡ length es
    → map entry_of (insert_entry key_eq es k Exp) ≡ map entry_of es ++ entry_of (k, Exp) ∷ []
insert_entry-last k [] h = refl
insert_entry-last k (e ∷ es) h = grind (arith, nat_tests, insert_entry-last k es, key_eq-is)

pub with_category-map : (es : List (Key × Cat)) (i : ℕ) (w : Cat) → map entry_of (set_value_at es i w)
    ≡ with_category i w (map entry_of es)
with_category-map [] i w = refl
with_category-map (e ∷ es) zero w = refl
with_category-map (e ∷ es) (suc i) w = ap (λ l. entry_of e ∷ l) (with_category-map es i w)

-- the same for an entry that is looked for, in a list that is seen of the table
module _ (es : List (Key × Cat)) (names : List Entry) (view : map entry_of es ≡ names) (kind : EntryKind)
    (text : List ℕ) where
  place-names : (k : Key) → k.kind ≡ kind → k.text.items ≡ text → position_or_len (key_eq k) (keys_of es)
      ≡ place_of kind text names
  place-names k p q = place-keys k es ∙ (λ i. place_of (p i) (q i) (view i))

  place-looked-for : (wanted : NameQuery) → wanted.kind ≡ kind → wanted.text.now ≡ text
      → position_or_len (is_wanted wanted) (keys_of es) ≡ place_of kind text names
  place-looked-for wanted p q = place-wanted wanted es ∙ (λ i. place_of (p i) (q i) (view i))

  pub found-place : (wanted : NameQuery) → wanted.kind ≡ kind → wanted.text.now ≡ text → (i : ℕ)
      → Some i ≡ position (is_wanted wanted) (keys_of es) → i ≡ place_of kind text names
  found-place wanted p q i h = grind (arith, nat_tests, position-found, place-looked-for)

  pub new-place : (wanted : NameQuery) → wanted.kind ≡ kind → wanted.text.now ≡ text
      → position (is_wanted wanted) (keys_of es) ≡ None → length es ≡ place_of kind text names
  new-place wanted p q h = grind (arith, nat_tests, length-map, position-none, place-looked-for)

  pub new-last : (wanted : NameQuery) → wanted.kind ≡ kind → wanted.text.now ≡ text
      → position (is_wanted wanted) (keys_of es) ≡ None → place_of kind text names ≡ length names
  new-last wanted p q h = sym (new-place wanted p q h) ∙ sym (length-map es entry_of) ∙ ap length view

  pub with_entry-present : place_of kind text names < length names → with_entry kind text names ≡ names
  with_entry-present h = grind (arith, nat_tests, lt-ltb)

  pub with_entry-new : length es ≡ place_of kind text names → (k : Key) → k.kind ≡ kind → k.text.items ≡ text
      → map entry_of (insert_entry key_eq es k Exp) ≡ with_entry kind text names
  with_entry-new h k p q = grind (arith, nat_tests, place-keys, place-names, length-map, insert_entry-last, le-ltb)

  pub length-new : length es ≡ place_of kind text names → (k : Key) → k.kind ≡ kind → k.text.items ≡ text
      → length (map entry_of (insert_entry key_eq es k Exp)) ≡ length es + 1
  length-new h k p q = grind (arith, nat_tests, place-keys, place-names, insert_entry-last, length-append, length-map)

-- what is said of each item is said of the one at a place
said-at : {X : Type 0} (P : X → Type 0) (es : List (X × Cat)) (i : ℕ) (e : X × Cat) → AllByRecursion P (keys_of es)
    → slice_get es i ≡ Some e → P e.0
said-at P [] i e all is = cc
said-at {X = X} P (x ∷ es) zero e all is = let same : x ≡ e = cc in subst (λ (y : X × Cat). P y.0) same all.0
said-at P (x ∷ es) (suc i) e all is = said-at P es i e all.1 is

-- a key that is wanted stands at its place: none before it is wanted, since no two keys are equal
pub wanted-place : (wanted : NameQuery) (es : List (Key × Cat)) (i : ℕ) (e : Key × Cat) → IsDistinct key_eq (keys_of es)
    → slice_get es i ≡ Some e → IsTrue (is_wanted wanted e.0)
    → i ≡ place_of wanted.kind wanted.text.now (map entry_of es)
unfolding IsDistinct
wanted-place wanted [] i e distinct is here = cc
wanted-place wanted (x ∷ es) zero e distinct is here = grind (arith, nat_tests)
wanted-place wanted (x ∷ es) (suc i) e distinct is here =
    by (is_wanted wanted x.0) refl (wanted-place wanted es i e distinct.1 is here)
  where
    by : (b : Bool) → is_wanted wanted x.0 ≡ b → i ≡ place_of wanted.kind wanted.text.now (map entry_of es)
        → suc i ≡ place_of wanted.kind wanted.text.now (map entry_of (x ∷ es))
    by true found later =
        let differ : key_eq x.0 e.0 ≡ false = said-at (λ other. key_eq x.0 other ≡ false) es i e distinct.0 is in
        let equal : is_entry wanted.kind wanted.text.now (entry_of e) ≡ is_entry x.0.kind x.0.text.items (entry_of e) =
        alike (λ kind text. is_entry kind text (entry_of e)) wanted x.0 found in
        absurd (let wrong : false ≡ true = sym differ ∙ key_eq-is x.0 e ∙ sym equal ∙ here in cc)
    by false other later =
        let counted : place_of wanted.kind wanted.text.now (map entry_of (x ∷ es))
        ≡ 1 + place_of wanted.kind wanted.text.now (map entry_of es) =
        ap (λ b. cond (not b) (1 + place_of wanted.kind wanted.text.now (map entry_of es)) 0) other in
        omega (arith, counted, later)
