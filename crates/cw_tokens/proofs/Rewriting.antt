-- A token of the vector is written over.
use Rattle.cw_tokens.proofs.Terms.{◌≡◌, ℕ, ◌+◌, ◌<◌, ◌≤◌, Bool, List, [], length, set, get_or, sym, ◌∙◌, subst, arith}
use Rattle.cw_tokens.proofs.Terms.{drop-set-lt, length-set, length-take, slice_get_within, RawInt, Token, Reserved}
use Rattle.cw_tokens.proofs.Terms.{Link, Spot, StoredLists, cut, built, last_end, start_of, with_built, IsLinked}
use Rattle.cw_tokens.proofs.Terms.{IsStored, Finds, Reserves, ReservesToken}
use Rattle.cw_tokens.proofs.{Storing.view_of, Reserve.finds-reserves, Reserve.finds-token, Reserve.written}
use Rattle.cw_tokens.proofs.Cutting.{spans, get_or-cut, cut-set, length-cut}
use Rattle.cw_tokens.proofs.Linking.{linked-tied, linked-lists, linked-same, refers-with}

-- the fields after the identifier at a spot has become a reserved word, where the ones before were seen as v
pub record Rewrites (b : Bool) (from : ℕ) (es : List ℕ) (ts : List Token) (ks : List Link) (s t e k : ℕ) (root : ℕ)
    (spot : Spot) (place : ℕ) (v : StoredLists) : Type 0 where
  pub inside : place < length ts
  pub stored : IsStored b from es (set ts place (Reserved spot.name spot.number RawInt)) ks s t e k
  pub building : built b es (set ts place (Reserved spot.name spot.number RawInt)) ≡ v.building
  pub reserves : Reserves v.lists (cut 0 es (set ts place (Reserved spot.name spot.number RawInt))) root
  pub token : ReservesToken v.lists (cut 0 es (set ts place (Reserved spot.name spot.number RawInt))) spot.name

module _ (b : Bool) (from : ℕ) (es : List ℕ) (ts : List Token) (ks : List Link) (s t e k : ℕ) (root : ℕ) (spot : Spot)
    (place : ℕ) (old : IsStored b from es ts ks s t e k)
    (lt : root < length (cut 0 es ts)) (f : Finds (cut 0 es ts) root spot) (at : place
    ≡ start_of 0 es spot.list + spot.place) where
  abbrev word : Token
  word = Reserved spot.name spot.number RawInt

  in-list : spot.list < length es
  in-list = let h : spot.list < length (cut 0 es ts) = f.walks.inside in omega (arith, length-cut 0 es ts)

  in-cut : spot.place < length (get_or (cut 0 es ts) spot.list [])
  in-cut = slice_get_within _ _ _ f.token

  below-end : place < last_end 0 es
  below-end = grind (arith, spans, in-list, get_or-cut, length-take, in-cut)

  new-lists : cut 0 es (set ts place word) ≡ written (cut 0 es ts) root spot
      (linked-tied (cut 0 es ts) ks (linked-lists (cut 0 es ts) (built b es ts) ks old.linked)) lt f
  new-lists = cut-set 0 es ts spot.list spot.place place word old.ascending in-list in-cut (omega arith)

  same-built : (c : Bool) → built c es (set ts place word) ≡ built c es ts
  same-built c = grind (arith, drop-set-lt, below-end)

  reserves-here : Reserves (cut 0 es ts) (cut 0 es (set ts place word)) root
  reserves-here = rw new-lists (finds-reserves (cut 0 es ts) root spot
      (linked-tied (cut 0 es ts) ks (linked-lists (cut 0 es ts) (built b es ts) ks old.linked)) lt f)

  pub rewrites-own : Rewrites b from es ts ks s t e k root spot place (view_of b es ts s)
  rewrites-own = record {
    inside = let h : last_end 0 es ≤ length ts = old.within in let p : place < last_end 0 es = below-end in omega arith;
    stored = record {
      for_tokens = let h : length ts + s ≤ t = old.for_tokens in omega (arith, length-set ts place word);
      for_ends = old.for_ends;
      for_links = old.for_links;
      ascending = old.ascending;
      within = let h : last_end 0 es ≤ length ts = old.within in omega (arith, length-set ts place word);
      begun = old.begun;
      all = λ n. old.all n ∙ sym (length-set ts place word);
      as_many = old.as_many;
      linked = subst (λ o. IsLinked (with_built (cut 0 es (set ts place word)) o) ks) (sym (same-built b))
          (linked-same (with_built (cut 0 es ts) (built b es ts))
          (with_built (cut 0 es (set ts place word)) (built b es ts)) ks (refers-with (cut 0 es ts)
          (cut 0 es (set ts place word)) (built b es ts) reserves-here.same_length reserves-here.same_refs) old.linked);
    };
    building = same-built b;
    reserves = reserves-here;
    token = rw new-lists (finds-token (cut 0 es ts) root spot
        (linked-tied (cut 0 es ts) ks (linked-lists (cut 0 es ts) (built b es ts) ks old.linked)) lt f);
  }

pub rewrites-view : (b : Bool) (from : ℕ) (es : List ℕ) (ts : List Token) (ks : List Link) (s t e k : ℕ) (root : ℕ)
    (spot : Spot) (place : ℕ) (v : StoredLists) → IsStored b from es ts ks s t e k → view_of b es ts s ≡ v
    → root < length (cut 0 es ts) → Finds (cut 0 es ts) root spot → place ≡ start_of 0 es spot.list + spot.place
    → Rewrites b from es ts ks s t e k root spot place v
rewrites-view b from es ts ks s t e k root spot place v old q lt f at =
    grind (arith, rewrites-own b from es ts ks s t e k root spot place old lt f at)
