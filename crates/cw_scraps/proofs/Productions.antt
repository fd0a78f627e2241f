-- One production, up to the scraps to the right.
use Rattle.cw_scraps.proofs.Terms.{◌≡◌, ℕ, zero, suc, ◌+◌, ◌*◌, ◌<◌, ◌≤◌, List, [], ◌∷◌, ◌++◌, length, map, take, drop}
use Rattle.cw_scraps.proofs.Terms.{get_or, Some, refl, sym, ap, ◌∙◌, arith, slice_get, map-append, take-map, drop-map}
use Rattle.cw_scraps.proofs.Terms.{append_assoc, length-drop, length-take, length-append, length-map, get_or-drop}
use Rattle.cw_scraps.proofs.Terms.{drop-drop, get_or_append_left, nat_tests, common_steps, Cat, Flags, Maybe, MathMode}
use Rattle.cw_scraps.proofs.Terms.{Scrap, no_scrap, after, Piece, Row, cats_of, alone, with_cat, new_from, new_scrap}
use Rattle.cw_scraps.proofs.Terms.{Token, token_count, unfolded, token_ref, IsTied, IsUnreferred, StoredLists}
use Rattle.cw_scraps.proofs.Terms.{unfolded-old, unfolded-new, LineEntry, seen, scraps_of, roots_of, no_entry, AreRoots}
use Rattle.cw_scraps.proofs.Terms.{IsOutside, Insert, entry_cats, inserting, tokens_of, pieces_at, IsMade, kept, joined}
use Rattle.cw_scraps.proofs.Terms.{replaced_from, Replaces}
use Rattle.std.proofs.lemmas.List.Sums.{sum_by_push}
use Rattle.cw_scraps.proofs.{Fits.FitsAt, Fits.kept-there, Fits.place-inside, JoinedTrees.joint, Reservings.seen-get}
use Rattle.cw_scraps.proofs.{Changings.seen-same, Splices.spliced, Splices.tokens-ref, Splices.FromScrap}
use Rattle.cw_scraps.proofs.Buildings.{root-entry, length-roots, toggle-short}
use Rattle.cw_scraps.proofs.Growing.{FromRoot, grown-roots, grown-outside, grown-free, roots-replaced, same-spliced}

pub cats-same : (lists : List (List Token)) (entries : List LineEntry) → cats_of (scraps_of lists entries)
    ≡ entry_cats entries
cats-same lists [] = refl
cats-same lists (e ∷ entries) = ap (λ cs. e.cat ∷ cs) (cats-same lists entries)

new-kept : (cat : Cat) (n : ℕ) (pieces : List Piece) (scraps : List Scrap) (k : ℕ) → alone n pieces ≡ Some k
    → new_from cat n pieces scraps ≡ with_cat cat (get_or scraps k no_scrap)
new-kept cat n pieces scraps k e = grind arith

module _ (flags : Flags) (row : Row) (entries : List LineEntry) (f : FitsAt flags row entries) where
  -- the new scrap is the one that the row makes
  pub made-seen : (old new : StoredLists) (made : LineEntry) → IsMade flags row entries old new made
      → seen new.lists made ≡ new_scrap flags row (scraps_of old.lists entries)
  made-seen old new made (kept k a same is) = grind (arith, kept-there, seen-get, new-kept, cats-same)
  made-seen old new made (joined a grown idle spent cat list left right) = grind (
    arith,
    joint old.lists entries Maybe (pieces_at flags row entries) row.offset row.replaced f.run f.inside,
    unfolded-new old.lists (tokens_of Maybe (map (inserting entries) (pieces_at flags row entries))),
    cats-same old.lists entries,
  )

  -- the lists that were there stay
  pub made-old : (old new : StoredLists) (made : LineEntry) → IsMade flags row entries old new made → (k : ℕ) → k <
      length old.lists → (unfolded new.lists k ≡ unfolded old.lists k) × (get_or new.lists k [] ≡ get_or old.lists k [])
  made-old old new made h k g = grind (arith, unfolded-old, get_or_append_left)

-- each piece puts at most two tokens into a list
tokens-most : (mode : MathMode) (inserts : List Insert) → length (tokens_of mode inserts) ≤ 2 * length inserts
tokens-most mode [] = omega arith
tokens-most mode (i ∷ inserts) =
    grind (arith, tokens-most (after mode i.left i.right) inserts, length-append, toggle-short)

-- a new scrap takes at most 24 tokens, since a row has at most twelve pieces
few-more : (flags : Flags) (row : Row) (entries : List LineEntry) (old new : StoredLists) (made : LineEntry) → FitsAt
    flags row entries → IsMade flags row entries old new made → token_count new.lists ≤ token_count old.lists + 24
few-more flags row entries old new made f (kept k a same is) = grind arith
few-more flags row entries old new made f (joined a grown idle spent cat list left right) =
    let twelve : length (pieces_at flags row entries) ≤ 12 = f.few in
    let long : length (map (inserting entries) (pieces_at flags row entries)) ≡ length (pieces_at flags row entries) =
    length-map (pieces_at flags row entries) (inserting entries) in
    let most : length (tokens_of Maybe (map (inserting entries) (pieces_at flags row entries))) ≤ 2
    * length (map (inserting entries) (pieces_at flags row entries)) =
    tokens-most Maybe (map (inserting entries) (pieces_at flags row entries)) in
    let e : token_count new.lists ≡ token_count old.lists
    + length (tokens_of Maybe (map (inserting entries) (pieces_at flags row entries))) = ap token_count grown
    ∙ sum_by_push length old.lists (tokens_of Maybe (map (inserting entries) (pieces_at flags row entries))) in
    omega arith

pub seen-line : (old new : List (List Token)) (line : List LineEntry) → ((k : ℕ) → k < length old → unfolded new k
    ≡ unfolded old k) → ((i : ℕ) → i < length line → (get_or line i no_entry).list.index < length old)
    → scraps_of new line ≡ scraps_of old line
seen-line old new [] same there = refl
seen-line old new (e ∷ line) same there =
    ap (λ s. s ∷ scraps_of new line) (seen-same old new e (same e.list.index (there 0 (omega arith))))
    ∙ ap (λ ss. seen old e ∷ ss) (seen-line old new line same (λ i h. there (suc i) (omega arith)))

take-add : (xs : List Scrap) (a b : ℕ) → take (a + b) xs ≡ take a xs ++ take b (drop a xs)
take-add xs zero b = let z : zero + b ≡ b = omega arith in ap (λ n. take n xs) z
take-add [] (suc a) zero = let s : suc a + zero ≡ suc a = omega arith in ap (λ n. take {A = Scrap} n []) s
take-add [] (suc a) (suc b) = let s : suc a + suc b ≡ suc (a + suc b) = omega arith in ap (λ n. take {A = Scrap} n []) s
take-add (x ∷ xs) (suc a) b = let s : suc a + b ≡ suc (a + b) = omega arith in ap (λ n. take n (x ∷ xs)) s
    ∙ ap (λ ys. x ∷ ys) (take-add xs a b)

pub drop-there : (lists : List (List Token)) (line : List LineEntry) (place : ℕ) → AreRoots lists (roots_of line)
    → AreRoots lists (roots_of (drop place line))
drop-there lists line place r =
    grind (arith, nat_tests, common_steps, length-drop place (roots_of line), drop-map, get_or-drop, length-drop)

module _ (flags : Flags) (row : Row) (place : ℕ) (line : List LineEntry) (old new : StoredLists) (made : LineEntry)
    (f : FitsAt flags row (drop place line)) (is_made : IsMade flags row (drop place line) old new made)
    (tied : IsTied old.lists) (roots : AreRoots old.lists (roots_of line)) where
  abbrev pub at : ℕ
  at = place + row.offset

  abbrev result : List LineEntry
  result = take (place + row.offset) line ++ made ∷ drop (place + row.offset + row.replaced) line

  long : place + (row.offset + row.replaced) ≤ length line
  long = grind (arith, place-inside, length-drop)

  line-there : (i : ℕ) → i < length line → (get_or line i no_entry).list.index < length old.lists
  line-there i h = rw (← root-entry line i) (roots.there i (omega (arith, length-roots line)))

  same-line : scraps_of new.lists line ≡ scraps_of old.lists line
  same-line = seen-line old.lists new.lists line (λ k h. (made-old flags row (drop place line) f old new made is_made k
      h).0) line-there

  scraps-are : scraps_of new.lists result ≡ take place (scraps_of old.lists line) ++ replaced_from flags row
      (drop place (scraps_of old.lists line))
  scraps-are =
      let three : place + row.offset + row.replaced ≡ place + (row.offset + row.replaced) = omega arith in
      map-append (seen new.lists) (take at line) (made ∷ drop (at + row.replaced) line)
      ∙ (ap (λ xs. xs ++ seen new.lists made ∷ map (seen new.lists) (drop (at + row.replaced) line)) (sym (take-map
      (seen new.lists) at line) ∙ (ap (take at) same-line ∙ take-add (scraps_of old.lists line) place row.offset))
      ∙ (ap (λ xs. (take place (scraps_of old.lists line) ++ take row.offset (drop place (scraps_of old.lists line)))
      ++ seen new.lists made ∷ xs) (sym (drop-map (seen new.lists) (at + row.replaced) line)
      ∙ (ap (drop (at + row.replaced)) same-line ∙ (ap (λ n. drop n (scraps_of old.lists line)) three ∙ sym (drop-drop
      (row.offset + row.replaced) place (scraps_of old.lists line))))) ∙ (ap (λ s. (take place (scraps_of old.lists
      line) ++ take row.offset (drop place (scraps_of old.lists line))) ++ s ∷ drop (row.offset + row.replaced)
      (drop place (scraps_of old.lists line))) (made-seen flags row (drop place line) f old new made is_made
      ∙ ap (new_scrap flags row) (sym (drop-map (seen old.lists) place line))) ∙ append_assoc (take place
      (scraps_of old.lists line)) (take row.offset (drop place (scraps_of old.lists line))) (new_scrap flags row (drop
      place (scraps_of old.lists line)) ∷ drop (row.offset + row.replaced) (drop place (scraps_of old.lists line))))))

  count-is : length result + row.replaced ≡ length line + 1
  count-is = grind (arith, long, length-append, length-take, length-drop)

  -- the roots of the new line
  pub record NewRoots : Type 0 where
    pub are : AreRoots new.lists (roots_of result)
    pub outside : (k : ℕ) → IsOutside old.lists (roots_of line) k → IsOutside new.lists (roots_of result) k
    pub free : (k : ℕ) → IsOutside old.lists (roots_of line) k → IsUnreferred old.lists k → IsUnreferred new.lists k

  from-kept : (k : ℕ) → alone row.replaced (pieces_at flags row (drop place line)) ≡ Some k → new ≡ old
      → made.list.index ≡ (get_or (drop place line) k no_entry).list.index → NewRoots
  from-kept k a same is =
      grind (arith, long, length-roots, get_or-drop, root-entry, roots-replaced, spliced, same-spliced)

  from-joined : new.lists ≡ old.lists ++ tokens_of Maybe (map (inserting (drop place line))
      (pieces_at flags row (drop place line))) ∷ [] → made.list.index ≡ length old.lists → NewRoots
  from-joined grown list =
      let rs : List ℕ = roots_of line in
      let ordered : at ≤ at + row.replaced = omega arith in
      let fits : at + row.replaced ≤ length (roots_of line) = omega (arith, long, length-roots line) in
      let all : roots_of result ≡ spliced (roots_of line) at (at + row.replaced) (length old.lists) =
      roots-replaced line at (at + row.replaced) made ∙ ap (spliced (roots_of line) at (at + row.replaced)) list in
      record {
        are = rw (all, grown) (grown-roots old.lists (tokens_of Maybe (map (inserting (drop place line)) (pieces_at
            flags row (drop place line)))) (roots_of line) at (at + row.replaced) ordered fits tied roots refs);
        outside = λ m o. rw (all, grown) (grown-outside old.lists
            (tokens_of Maybe (map (inserting (drop place line)) (pieces_at flags row (drop place line))))
            (roots_of line) at (at + row.replaced) ordered fits tied roots refs m o);
        free = λ m o u. rw grown (grown-free old.lists (tokens_of Maybe (map (inserting (drop place line)) (pieces_at
            flags row (drop place line)))) (roots_of line) at (at + row.replaced) ordered fits tied roots refs m o u);
      }
    where
      refs : (p x : ℕ) → token_ref (slice_get (tokens_of Maybe (map (inserting (drop place line))
          (pieces_at flags row (drop place line)))) p) ≡ Some x → FromRoot (roots_of line) at (at + row.replaced) x
      refs p x e =
          let s : FromScrap (drop place line) row.offset row.replaced x = tokens-ref (drop place line) Maybe
          (pieces_at flags row (drop place line)) row.offset row.replaced p x f.run e in
          let a : row.offset ≤ s.number = s.low in
          let b : s.number < row.offset + row.replaced = s.high in
          record {
            place = place + s.number;
            from_at = omega arith;
            below_n = omega arith;
            is = s.is ∙ (ap (λ (e : LineEntry). e.list.index) (get_or-drop place line s.number no_entry)
                ∙ sym (root-entry line (place + s.number)));
          }

  new-roots : NewRoots
  new-roots = grind (arith, from-kept, from-joined)

  pub replaces : Replaces flags row place old.lists line new.lists result
  replaces = record {
    scraps = scraps-are;
    roots = new-roots.are;
    keeps = record {
      lists = λ k o. (made-old flags row (drop place line) f old new made is_made k o.there).1;
      trees = λ k o. (made-old flags row (drop place line) f old new made is_made k o.there).0;
      outside = new-roots.outside;
      free = new-roots.free;
    };
    count = count-is;
    few = few-more flags row (drop place line) old new made f is_made;
  }
