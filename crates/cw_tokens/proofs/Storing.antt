-- What the fields of a store keep, from one call to the next.
use Rattle.cw_tokens.proofs.Terms.{◌≡◌, ℕ, ◌+◌, ◌-◌, ◌<◌, ◌≤◌, Bool, true, false, List, [], ◌∷◌, ◌++◌, length, Option}
use Rattle.cw_tokens.proofs.Terms.{Some, drop, IsSome, arith, drop-append-le, length-drop, length-set, length_push}
use Rattle.cw_tokens.proofs.Terms.{Token, Link, shape, ref_of, IsTied, StoredLists, MayBePushed, all_lists, cut, built}
use Rattle.cw_tokens.proofs.Terms.{last_end, linked, no_link, IsStored}
use Rattle.std.specs.Option.{option_to_list}
use Rattle.cw_tokens.proofs.Cutting.{length-cut, cut-push, cut-finish, ascending-finish, last_end-finish}
use Rattle.cw_tokens.proofs.Linking.{linked-push, linked-finish, linked-tied}

-- what contracts see of these fields
abbrev pub view_of : Bool → List ℕ → List Token → ℕ → StoredLists
view_of building ends tokens spare = record {
  lists = cut 0 ends tokens;
  building = built building ends tokens;
  spare = spare;
}

false-true : ◌≡◌ {A = Bool} false true → ⊥
false-true n = cc

abbrev pub up_here : ℕ → List ℕ → List Token → Link
up_here f es ts = record { list = length es; place = (length ts - f) + 1 }

length-linked : (r : Option ℕ) (up : Link) (links : List Link) → length (linked r up links) ≡ length links
length-linked r up links = grind (arith, length-set)

pub push-stored : (f : ℕ) (es : List ℕ) (ts : List Token) (ks : List Link) (s t e k : ℕ) (token : Token) → 0 < s
    → MayBePushed (view_of true es ts s) token → IsStored true f es ts ks s t e k
    → IsStored true f es (ts ++ token ∷ []) (linked (ref_of (shape token)) (up_here f es ts) ks) (s - 1) t e k
push-stored f es ts ks s t e k token h may old =
    grind (arith, length_push, length-linked, cut-push, drop-append-le, length-drop, linked-push, length-cut)

pub finish-lists : (f : ℕ) (es : List ℕ) (ts : List Token) (ks : List Link) (s t e k : ℕ)
    → IsStored true f es ts ks s t e k → cut 0 (es ++ length ts ∷ []) ts ≡ cut 0 es ts ++ drop (last_end 0 es) ts ∷ []
finish-lists f es ts ks s t e k old = grind (arith, cut-finish)

pub finish-stored : (f : ℕ) (es : List ℕ) (ts : List Token) (ks : List Link) (s t e k : ℕ)
    → IsStored true f es ts ks s t e k → IsStored false f (es ++ length ts ∷ []) ts (ks ++ no_link ∷ []) s t e k
finish-stored f es ts ks s t e k old = record {
  for_tokens = old.for_tokens;
  for_ends = let a : length es + 1 + s ≤ e = old.for_ends in omega (arith, length_push es (length ts));
  for_links = let a : length ks + 1 + s ≤ k = old.for_links in omega (arith, length_push ks no_link);
  ascending = ascending-finish 0 es (length ts) old.ascending old.within;
  within = let a : last_end 0 (es ++ length ts ∷ []) ≡ length ts = last_end-finish 0 es (length ts) in omega arith;
  begun = λ n. absurd (false-true n);
  all = λ n. last_end-finish 0 es (length ts);
  as_many = let a : length ks ≡ length es = old.as_many in
      omega (arith, length_push es (length ts), length_push ks no_link);
  linked = rw (finish-lists f es ts ks s t e k old) (linked-finish (cut 0 es ts ++ drop (last_end 0 es) ts ∷ []) ks
      (let a : length ks ≡ length es = old.as_many in omega (
        arith,
        length_push (cut 0 es ts) (drop (last_end 0 es) ts),
        length-cut 0 es ts,
      )) old.linked);
}

-- the fields after a push, where the ones before were seen as v
pub record Pushes (b : Bool) (f : ℕ) (es : List ℕ) (ts : List Token) (ks : List Link) (s t e k : ℕ) (token : Token)
    (v : StoredLists) : Type 0 where
  pub stored : IsStored b f es (ts ++ token ∷ []) (linked (ref_of (shape token)) (up_here f es ts) ks) (s - 1) t e k
  pub lists : cut 0 es (ts ++ token ∷ []) ≡ v.lists
  pub below : (x : ℕ) → ref_of (shape token) ≡ Some x → x < length ks

push-own : (b : Bool) (f : ℕ) (es : List ℕ) (ts : List Token) (ks : List Link) (s t e k : ℕ) (token : Token)
    → IsStored b f es ts ks s t e k → IsSome (built b es ts) → 0 < s → MayBePushed (view_of b es ts s) token
    → Pushes b f es ts ks s t e k token (view_of b es ts s)
push-own true f es ts ks s t e k token old some room may = record {
  stored = push-stored f es ts ks s t e k token room may old;
  lists = cut-push 0 es ts token old.ascending (let a : last_end 0 es ≤ length ts = old.within in omega arith);
  below = λ x h. let lt : x < length (cut 0 es ts) = (may x h).0 in let a : length ks ≡ length es = old.as_many in
      omega (arith, length-cut 0 es ts);
}
push-own false f es ts ks s t e k token old some room may = cc

pub push-view : (b : Bool) (f : ℕ) (es : List ℕ) (ts : List Token) (ks : List Link) (s t e k : ℕ) (token : Token)
    (v : StoredLists) → IsStored b f es ts ks s t e k → view_of b es ts s ≡ v
    → IsSome v.building → 0 < v.spare → MayBePushed v token → Pushes b f es ts ks s t e k token v
push-view b f es ts ks s t e k token v old q = grind (arith, push-own b f es ts ks s t e k token old)

-- the fields after the end of a list, where the ones before were seen as v
pub record Finishes (f : ℕ) (es : List ℕ) (ts : List Token) (ks : List Link) (s t e k : ℕ) (v : StoredLists) : Type 0
  where
    pub stored : IsStored false f (es ++ length ts ∷ []) ts (ks ++ no_link ∷ []) s t e k
    pub lists : cut 0 (es ++ length ts ∷ []) ts ≡ v.lists ++ option_to_list v.building
    pub number : length es ≡ length v.lists

finish-own : (b : Bool) (f : ℕ) (es : List ℕ) (ts : List Token) (ks : List Link) (s t e k : ℕ)
    → IsStored b f es ts ks s t e k → IsSome (built b es ts) → Finishes f es ts ks s t e k (view_of b es ts s)
finish-own true f es ts ks s t e k old some =
    grind (arith, finish-stored f es ts ks s t e k old, finish-lists f es ts ks s t e k old, length-cut 0 es ts)
finish-own false f es ts ks s t e k old some = cc

pub finish-view : (b : Bool) (f : ℕ) (es : List ℕ) (ts : List Token) (ks : List Link) (s t e k : ℕ) (v : StoredLists)
    → IsStored b f es ts ks s t e k → view_of b es ts s ≡ v → IsSome v.building → Finishes f es ts ks s t e k v
finish-view b f es ts ks s t e k v old q = grind (arith, finish-own b f es ts ks s t e k old)

pub tied-view : (b : Bool) (f : ℕ) (es : List ℕ) (ts : List Token) (ks : List Link) (s t e k : ℕ) (v : StoredLists)
    → IsStored b f es ts ks s t e k → view_of b es ts s ≡ v → IsTied (all_lists v)
tied-view b f es ts ks s t e k v old q = grind (arith, linked-tied)

-- a list that contracts see is one of the fields
pub record IsKept (es : List ℕ) (ts : List Token) (i : ℕ) : Type 0 where
  pub in_cut : i < length (cut 0 es ts)
  pub in_ends : i < length es

pub kept-view : (b : Bool) (es : List ℕ) (ts : List Token) (s i : ℕ) (v : StoredLists) → view_of b es ts s ≡ v
    → i < length v.lists → IsKept es ts i
kept-view b es ts s i v q h = grind (arith, length-cut)
