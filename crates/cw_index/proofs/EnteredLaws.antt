-- A name that is entered stays, and entering it again changes nothing.
use Rattle.cw_index.proofs.Terms.{◌≡◌, ℕ, Bool, true, false, ◌⊎◌, inl, inr, refl, sym, ap, ◌∙◌, subst, List, [], ◌∷◌}
use Rattle.cw_index.proofs.Terms.{Option, Some, None, map, get_or, arith, slice_get, insert_key, IsTotalOrder, Ordering}
use Rattle.cw_index.proofs.Terms.{Less, Equal, Greater, on, alike_right, tied_itself, SecName, Listed, Standing}
use Rattle.cw_index.proofs.Terms.{sorted_on, StandingName, has_reference, kept_stand, stand_cmp, Holds, HoldsName}
use Rattle.cw_index.proofs.Terms.{IsSorting, stand_of, stands_of}
use Rattle.cw_index.specs.{declared.standing.Sorting.Sorting, laws.StandingLaws.stand_cmp-total}
use Rattle.cw_index.proofs.RowLaws.{inserted}
use Rattle.cw_base.specs.Conditions.{list_if}

holds-same : {K : Type 0} (o : K → K → Ordering) (x : K) (keys : List K) → Holds o x keys → insert_key o keys x ≡ keys
holds-same o x [] h = absurd h
holds-same o x (k ∷ keys) (inl equal) = grind arith
holds-same o x (k ∷ keys) (inr (greater, later)) = grind (arith, holds-same o x keys later)

holds-new : {K : Type 0} (o : K → K → Ordering) → IsTotalOrder o → (x : K) (keys : List K)
    → Holds o x (insert_key o keys x)
holds-new o total x [] = inl (tied_itself total x)
holds-new o total x (k ∷ keys) = grind (arith, holds-new o total x keys, tied_itself)

-- what is behind a key that comes after another is behind the other
behind : {K : Type 0} (o : K → K → Ordering) → IsTotalOrder o → (x y k : K) → o y k ≡ Less
    → (o x k ≡ Equal) ⊎ (o x k ≡ Greater) → o x y ≡ Greater
behind o total x y k less h = grind (arith, alike_right)

holds-still : {K : Type 0} (o : K → K → Ordering) → IsTotalOrder o → (x y : K) (keys : List K) → Holds o x keys
    → Holds o x (insert_key o keys y)
holds-still o total x y [] h = absurd h
holds-still o total x y (k ∷ keys) h = grind (arith, holds-still o total x y keys, behind)

-- a name that is entered changes nothing
kept-by : (b : Bool) (n : SecName) (listed : Listed) (stands : List StandingName) → HoldsName stands n
    → stands ≡ sorted_on stand_cmp stands (list_if b (record { kind = n.kind; text = n.text; listed = listed } ∷ []))
kept-by true n listed stands h = grind (arith, holds-same)
kept-by false n listed stands h = refl

pub entered-same : (found : Option SecName) (listed : Listed) (stands : List StandingName) → ((n : SecName) → found
    ≡ Some n → HoldsName stands n) → stands ≡ sorted_on stand_cmp stands (kept_stand found listed)
entered-same None listed stands f = refl
entered-same (Some n) listed stands f = kept-by (has_reference n) n listed stands (f n refl)

-- what compares as another does stands where the other stands
holds-like : {K : Type 0} (o : K → K → Ordering) (x y : K) (keys : List K) → ((k : K) → o x k ≡ o y k)
    → Holds o x keys → Holds o y keys
holds-like o x y [] f h = absurd h
holds-like o x y (k ∷ keys) f (inl equal) = inl (sym (f k) ∙ equal)
holds-like o x y (k ∷ keys) f (inr (greater, later)) = inr (sym (f k) ∙ greater, holds-like o x y keys f later)

-- a stand, with the kept name that it is
record IsStand (found : Option SecName) (listed : Listed) (s : StandingName) : Type 0 where
  name : SecName
  here : found ≡ Some name
  is : s ≡ record { kind = name.kind; text = name.text; listed = listed }

stand-is : (found : Option SecName) (listed : Listed) (s : StandingName) → s ∷ [] ≡ kept_stand found listed
    → IsStand found listed s
stand-is found listed s h = grind arith

some-same : {X : Type 0} (a b : X) → Some a ≡ Some b → a ≡ b
some-same a b h = cc

-- a name more
pub sorting-more : (names : List SecName) (old new : Sorting) (stand : Standing) (listed : Listed) → IsSorting names old
    → new.stands.keys ≡ insert_key (on stand_of stand_cmp) old.stands.keys stand → ((k : ℕ) → get_or new.entered.items k
    false ≡ true → (k ≡ stand.id.index) ⊎ (get_or old.entered.items k false ≡ true))
    → stands_of (Some stand) ≡ kept_stand (slice_get names listed.id.index) listed → IsSorting names new
sorting-more names old new stand listed s keys entered is k n at here l =
    let before : List StandingName = map stand_of old.stands.keys in
    let more : map stand_of new.stands.keys ≡ insert_key stand_cmp before (stand_of stand) = ap (map stand_of) keys
    ∙ inserted stand_of stand_cmp old.stands.keys stand in
    let name : StandingName = record { kind = n.kind; text = n.text; listed = l } in
    subst (Holds stand_cmp name) (sym more) (elim (entered k at) [
      | inl same ↦ let one : IsStand
          (slice_get names listed.id.index) listed (stand_of stand) = stand-is (slice_get names listed.id.index) listed
          (stand_of stand) is in let place : k ≡ listed.id.index = same ∙ ap (λ (t : StandingName). t.listed.id.index)
          one.is
          in let which : one.name ≡ n = some-same one.name n (sym one.here ∙ sym (ap (slice_get names) place)
          ∙ here) in holds-like stand_cmp (stand_of stand) name (insert_key stand_cmp before (stand_of stand))
          (λ other. ap (λ (t : StandingName). stand_cmp t other) one.is ∙ ap (λ (m : SecName). stand_cmp (record
          { kind = m.kind; text = m.text; listed = l }) other) which)
          (holds-new stand_cmp stand_cmp-total (stand_of stand)
          before)
      | inr earlier ↦ holds-still stand_cmp stand_cmp-total name (stand_of stand) before (s k n earlier here l)
    ])
