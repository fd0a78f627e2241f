-- What is open while a C text is read: its lists beside the others of the store, its scraps, and a new list among them.
use Rattle.cw_translator.proofs.Terms.{◌≡◌, ℕ, suc, ◌+◌, ◌≤◌, List, [], ◌∷◌, ◌++◌, length, map, get_or, Some, ◌⊎◌, inl}
use Rattle.cw_translator.proofs.Terms.{inr, None, refl, sym, ap, subst, arith, All, slice_get, get_or_append_left}
use Rattle.cw_translator.proofs.Terms.{map-append, take_all, drop_all, All-append, All-cons, All-head, All-tail}
use Rattle.cw_translator.proofs.Terms.{is_fine, Token, unfolded, token_ref, IsTied, unfolded-old, Scrap, scrap_agrees}
use Rattle.cw_translator.proofs.Terms.{LineEntry, seen, scraps_of, roots_of, AreRoots, IsOutside, IsNamedBelow, Keeps}
use Rattle.cw_translator.proofs.Terms.{more-named, CommentPart, Open, part_seen, inner_lists, with_entry, with_part}
use Rattle.cw_translator.proofs.Terms.{frame_of, frames_of, open_roots, all_roots, IsNamedItem, AreSoundScraps}
use Rattle.cw_translator.proofs.Terms.{IsSoundFrame, Frame, with_scrap, with_item, CommentItem}
use Rattle.cw_translator.proofs.Terms.{CText as CTextFrame, StoredLists, Comment as CommentFrame, append_assoc, ◌-◌}
use Rattle.cw_translator.proofs.Terms.{◌<◌, get_or-append-add, length-append, refers, IsUnreferred, Reach, next}
use Rattle.std.proofs.lemmas.Bool.{cases_lt}
use Rattle.cw_table.proofs.ScrapFacts.{all-append}
use Rattle.cw_tokens.proofs.Linking.{refers-more}
use Rattle.cw_scraps.proofs.Growing.{grown-roots, grown-outside}
use Rattle.cw_scraps.proofs.Splices.{spliced}
use Rattle.cw_translator.specs.declared.comments.CommentPart.TheVariants as part
use Rattle.cw_tokens.specs.References.{here}

-- ## A step of one line beside the others that stand in the same store

-- what holds of each root of a group and its place, and of those of two groups
abbrev Each : (ℕ → ℕ → Type 0) → List ℕ → Type 0
Each P xs = (i : ℕ) → i < length xs → P i (get_or xs i 0)

module _ (P : ℕ → ℕ → Type 0) (xs ys : List ℕ) where
  each-both : Each P xs → Each (λ i. P (length xs + i)) ys → Each P (xs ++ ys)
  each-both a b i h = elim (cases_lt i (length xs)) [
    | inl k ↦ rw get_or_append_left (a i k)
    | inr k ↦
        let at : length xs + (i - length xs) ≡ i = omega arith in
        subst (λ j. P j (get_or (xs ++ ys) j 0)) at
        (rw get_or-append-add (b (i - length xs) (omega (arith, length-append xs ys))))
  ]

  each-left : Each P (xs ++ ys) → Each P xs
  each-left all i h = rw get_or_append_left at (all i (omega (arith, length-append xs ys)))

  each-right : Each P (xs ++ ys) → Each (λ i. P (length xs + i)) ys
  each-right all i h = rw get_or-append-add at (all (length xs + i) (omega (arith, length-append xs ys)))

-- what is outside two groups is outside each
abbrev Apart : List (List Token) → ℕ → ℕ → ℕ → Type 0
Apart lists k i x = (Reach lists k x → ⊥) × (Reach lists x k → ⊥)

outside-by : (lists : List (List Token)) (rs : List ℕ) (k : ℕ) → k < length lists → Each (Apart lists k) rs
    → IsOutside lists rs k
outside-by lists rs k there each = record { there = there; above = λ i h. (each i h).0; below = λ i h. (each i h).1 }

module _ (lists : List (List Token)) (xs ys : List ℕ) (k : ℕ) where
  outside-left : IsOutside lists (xs ++ ys) k → IsOutside lists xs k
  outside-left o = outside-by lists xs k o.there (each-left (Apart lists k) xs ys (λ i h. (o.above i h, o.below i h)))

  outside-right : IsOutside lists (xs ++ ys) k → IsOutside lists ys k
  outside-right o = outside-by lists ys k o.there (each-right (Apart lists k) xs ys (λ i h. (o.above i h, o.below i h)))

  outside-both : IsOutside lists xs k → IsOutside lists ys k → IsOutside lists (xs ++ ys) k
  outside-both a b = outside-by lists (xs ++ ys) k a.there
      (each-both (Apart lists k) xs ys (λ i h. (a.above i h, a.below i h)) (λ i h. (b.above i h, b.below i h)))

-- nothing but the list itself leads to a list to which nothing refers
unreferred-reach : (lists : List (List Token)) (a b : ℕ) → IsUnreferred lists b → Reach lists a b → a ≡ b
unreferred-reach lists a b free here = refl
unreferred-reach lists a b free (next l p n e r) = absurd (free l p e)

-- the roots of two groups
abbrev once : ℕ → ℕ → ℕ → ℕ → Type 0
once m x n y = x ≡ y → m ≡ n

module _ (lists : List (List Token)) (xs ys : List ℕ) where
  module _ (roots : AreRoots lists (xs ++ ys)) where
    apart : Each (λ m x. Each (once m x) (xs ++ ys)) (xs ++ ys)
    apart m a n b = roots.apart m n a b

    first : (i : ℕ) → i < length xs → Each (once i (get_or xs i 0)) (xs ++ ys)
    first = each-left (λ m x. Each (once m x) (xs ++ ys)) xs ys apart

    left-roots : AreRoots lists xs
    left-roots = record {
      there = each-left (λ i x. x < length lists) xs ys roots.there;
      free = each-left (λ i. IsUnreferred lists) xs ys roots.free;
      apart = λ i j h k. each-left (once i (get_or xs i 0)) xs ys (first i h) j k;
    }

    pub right-roots : AreRoots lists ys
    right-roots = record {
      there = each-right (λ i x. x < length lists) xs ys roots.there;
      free = each-right (λ i. IsUnreferred lists) xs ys roots.free;
      apart = λ i j h k e. (let same = each-right (once (length xs + i) (get_or ys i 0)) xs ys
          (each-right (λ m x. Each (once m x) (xs ++ ys)) xs ys apart i h) j k e in omega (arith, same));
    }

    -- a root of one group is none of the other, and outside it
    differ : (i j : ℕ) → i < length xs → j < length ys → get_or xs i 0 ≡ get_or ys j 0 → ⊥
    differ i j h k e = omega (arith, each-right (once i (get_or xs i 0)) xs ys (first i h) j k e)

    outside-group : (i : ℕ) → i < length xs → IsOutside lists ys (get_or xs i 0)
    outside-group i h = outside-by lists ys (get_or xs i 0) (left-roots.there i h) (λ j k. (
      λ r. differ i j h k (unreferred-reach lists _ _ (right-roots.free j k) r),
      λ r. differ i j h k (sym (unreferred-reach lists _ _ (left-roots.free i h) r)),
    ))

  roots-both : AreRoots lists xs → AreRoots lists ys → Each (λ i. IsOutside lists ys) xs → AreRoots lists (xs ++ ys)
  roots-both a b out =
      let other : (i j : ℕ) → i < length xs → j < length ys → get_or xs i 0 ≡ get_or ys j 0 → ⊥ = λ i j h k e.
      (out i h).above j k (subst (Reach lists (get_or xs i 0)) e here) in
      record {
        there = each-both (λ i x. x < length lists) xs ys a.there b.there;
        free = each-both (λ i. IsUnreferred lists) xs ys a.free b.free;
        apart = λ i j h k. each-both (λ m x. Each (once m x) (xs ++ ys)) xs ys
            (λ m l. each-both (once m (get_or xs m 0)) xs ys (λ n. a.apart m n l) (λ n o e. absurd (other m n l o e)))
            (λ m l. each-both (once (length xs + m) (get_or ys m 0)) xs ys
            (λ n o e. absurd (other n m o l (sym e))) (λ n o e. omega (arith, b.apart m n l o e))) i h j k;
      }

-- what stands in the tree of a list outside is outside too
reach-before : (lists : List (List Token)) (a l p n : ℕ) → IsTied lists → refers lists l p ≡ Some n
    → IsUnreferred lists a → Reach lists a n → Reach lists a l
reach-before lists a l p x tied e free here = absurd (free l p e)
reach-before lists a l p x tied e free (next m q n f s) = subst (Reach lists a) (tied.once m q l p n f e).0 s

outside-below : (lists : List (List Token)) (rs : List ℕ) → IsTied lists → AreRoots lists rs → (l p n : ℕ)
    → IsOutside lists rs l → refers lists l p ≡ Some n → IsOutside lists rs n
outside-below lists rs tied roots l p n o e = grind (arith, unreferred-reach, reach-before)

module _ (old new : List (List Token)) (others rs ss : List ℕ) (tied : IsTied old) (roots : AreRoots old (others ++ rs))
    (keeps : Keeps old new rs ss) (made : AreRoots new ss) where
  -- what an outer root reaches now it reached before
  reach-back : (a x : ℕ) → IsOutside old rs a → Reach new a x → Reach old a x × IsOutside old rs x
  reach-back a x o here = (here, o)
  reach-back a x o (next l p n e r) =
      grind (arith, reach-back a l o r, refers, token_ref, slice_get, next, outside-below, right-roots)

  outer-out : Each (λ i. IsOutside old rs) others
  outer-out = outside-group old others rs roots

  outer-free : Each (λ i. IsUnreferred new) others
  outer-free i h = keeps.free (get_or others i 0) (outer-out i h) ((left-roots old others rs roots).free i h)

  beside-roots : AreRoots new (others ++ ss)
  beside-roots = roots-both new others ss (record {
    there = λ i h. (keeps.outside (get_or others i 0) (outer-out i h)).there;
    free = outer-free;
    apart = (left-roots old others rs roots).apart;
  }) made (λ i h. keeps.outside (get_or others i 0) (outer-out i h))

  stays-outside : (k : ℕ) → IsOutside old others k → IsOutside old rs k → IsOutside new others k
  stays-outside k o p = record {
    there = (keeps.outside k p).there;
    above = λ i h r. o.above i h (subst (Reach old k) (unreferred-reach new k _ (outer-free i h) r) here);
    below = λ i h r. o.below i h (reach-back _ k (outer-out i h) r).0;
  }

  beside-keeps : Keeps old new (others ++ rs) (others ++ ss)
  beside-keeps = record {
    lists = λ k o. keeps.lists k (outside-right old others rs k o);
    trees = λ k o. keeps.trees k (outside-right old others rs k o);
    outside = λ k o. outside-both new others ss k (stays-outside k (outside-left old others rs k o)
        (outside-right old others rs k o)) (keeps.outside k (outside-right old others rs k o));
    free = λ k o f. keeps.free k (outside-right old others rs k o) f;
  }

-- ## What is open

-- the same trees, the same frames
module _ (old new : List (List Token)) where
  abbrev IsSame : ℕ → ℕ → Type 0
  IsSame i k = unfolded new k ≡ unfolded old k

  line-same : (line : List LineEntry) → Each IsSame (roots_of line) → scraps_of new line ≡ scraps_of old line
  line-same [] all = refl
  line-same (e ∷ line) all = cc (all 0 (omega arith), line-same line (λ i h. all (suc i) (omega arith)))

  parts-same : (parts : List CommentPart) → Each IsSame (inner_lists parts)
      → map (part_seen new) parts ≡ map (part_seen old) parts
  parts-same [] all = refl
  parts-same (part.Piece number ∷ parts) all = cc (parts-same parts all)
  parts-same (part.InnerText list ∷ parts) all =
      cc (all 0 (omega arith), parts-same parts (λ i h. all (suc i) (omega arith)))

  frame-same : (inner : Open) → Each IsSame (open_roots inner) → frame_of new inner ≡ frame_of old inner
  frame-same inner all = grind (arith, line-same, parts-same)

  frames-same : (all : List Open) → Each IsSame (all_roots all) → frames_of new all ≡ frames_of old all
  frames-same [] same = refl
  frames-same (inner ∷ outer) same = cc (
    frame-same inner (each-right IsSame (all_roots outer) (open_roots inner) same),
    frames-same outer (each-left IsSame (all_roots outer) (open_roots inner) same),
  )

-- a new list that refers to none, behind the roots
module _ (old : List (List Token)) (ts : List Token) (rs : List ℕ) (tied : IsTied old) (roots : AreRoots old rs)
    (plain : (p x : ℕ) → token_ref (slice_get ts p) ≡ Some x → ⊥) where
  behind : spliced rs (length rs) (length rs) (length old) ≡ rs ++ length old ∷ []
  behind = grind (arith, take_all, drop_all)

  pub plain-roots : AreRoots (old ++ ts ∷ []) (rs ++ length old ∷ [])
  plain-roots = grind (arith, behind, grown-roots)

  pub plain-keeps : Keeps old (old ++ ts ∷ []) rs (rs ++ length old ∷ [])
  plain-keeps = record {
    lists = λ k o. get_or_append_left old (ts ∷ []) [] k o.there;
    trees = λ k o. unfolded-old old ts k o.there;
    outside = λ k o. subst (λ xs. IsOutside (old ++ ts ∷ []) xs k) behind (grown-outside old ts rs (length rs)
        (length rs) (omega arith) (omega arith) tied roots (λ p x e. absurd (plain p x e)) k o);
    free = λ k o f l p e. elim (refers-more old ts l p k e) [ inl a ↦ f l p a | inr b ↦ plain p k b.1 ];
  }

-- one list in place of those of what ends
pub record Ends (old new : StoredLists) (roots : List ℕ) (list : ℕ) : Type 0 where
  pub root : AreRoots new.lists (list ∷ [])
  pub keeps : Keeps old.lists new.lists roots (list ∷ [])
  pub idle : new.building ≡ None

pub record KeptRoots (old new : List (List Token)) (before after : List ℕ) : Type 0 where
  pub roots : AreRoots new after
  pub keeps : Keeps old new before after

module _ (old new : StoredLists) (outer : List Open) (rs : List ℕ) (list : ℕ) (tied : IsTied old.lists)
    (roots : AreRoots old.lists (all_roots outer ++ rs)) (ends : Ends old new rs list) where
  -- it stands behind the roots around it
  pub ends-kept : KeptRoots old.lists new.lists (all_roots outer ++ rs) (all_roots outer ++ list ∷ [])
  ends-kept = grind (arith, beside-roots, all_roots, beside-keeps)

  -- what is open around it stays
  pub ends-frames : frames_of new.lists outer ≡ frames_of old.lists outer
  ends-frames = frames-same old.lists new.lists outer (λ i h. ends.keeps.trees (get_or (all_roots outer) i 0)
      (outside-group old.lists (all_roots outer) rs roots i h))

-- A scrap or an inner text of the innermost: its lists are behind the others, or stand nowhere.
pub record Put (lists : List (List Token)) (put : List ℕ) (outer after : List Open) (frames : List Frame) : Type 0 where
  pub roots : (all_roots after ≡ all_roots outer ++ put) ⊎ (all_roots after ≡ all_roots outer)
  pub is : frames_of lists after ≡ frames

put-entry : (lists : List (List Token)) (entry : LineEntry) (all : List Open)
    → Put lists (entry.list.index ∷ []) all (with_entry entry all) (with_scrap (seen lists entry) (frames_of lists all))
put-entry lists entry all = grind (arith, all_roots, map-append, append_assoc, roots_of, frames_of, seen)

-- where its scrap is known
pub entry-put : (lists : List (List Token)) (entry : LineEntry) (outer after : List Open) (scrap : Scrap)
    → seen lists entry ≡ scrap → after ≡ with_entry entry outer
    → Put lists (entry.list.index ∷ []) outer after (with_scrap scrap (frames_of lists outer))
entry-put lists entry outer after scrap is made = rw made (subst (λ s. Put lists (entry.list.index ∷ []) outer
    (with_entry entry outer) (with_scrap s (frames_of lists outer))) is (put-entry lists entry outer))

inner-append : (xs ys : List CommentPart) → inner_lists (xs ++ ys) ≡ inner_lists xs ++ inner_lists ys
inner-append [] ys = refl
inner-append (part.Piece number ∷ xs) ys = inner-append xs ys
inner-append (part.InnerText list ∷ xs) ys = ap (λ ls. list.index ∷ ls) (inner-append xs ys)

pub put-part : (lists : List (List Token)) (part : CommentPart) (all : List Open) → Put lists (inner_lists (part ∷ []))
    all (with_part part all) (with_item (part_seen lists part) (frames_of lists all))
put-part lists part all =
    grind (arith, all_roots, inner-append, append_assoc, inner_lists, frames_of, map-append, part_seen)

pub kept-put : (old new : List (List Token)) (before put : List ℕ) (outer after : List Open)
    → (all_roots after ≡ all_roots outer ++ put) ⊎ (all_roots after ≡ all_roots outer)
    → KeptRoots old new before (all_roots outer ++ put) → KeptRoots old new before (all_roots after)
kept-put old new before put outer after (inl e) kept = rw e kept
kept-put old new before put outer after (inr e) kept = rw e (record {
  roots = left-roots new (all_roots outer) put kept.roots;
  keeps = record {
    lists = kept.keeps.lists;
    trees = kept.keeps.trees;
    outside = λ k o. outside-left new (all_roots outer) put k (kept.keeps.outside k o);
    free = kept.keeps.free;
  };
})

-- sound frames
more-item : (m n : ℕ) (item : CommentItem) → m ≤ n → IsNamedItem m item → IsNamedItem n item
more-item m n item le h = grind (arith, more-named)

more-frame : (m n : ℕ) (frame : Frame) → m ≤ n → IsSoundFrame m frame → IsSoundFrame n frame
more-frame m n frame le h = grind (arith, more-named, more-item)

pub more-frames : (m n : ℕ) (frames : List Frame) → m ≤ n → All (IsSoundFrame m) frames → All (IsSoundFrame n) frames
more-frames m n frames le all k d h = more-frame m n (get_or frames k d) le (all k d h)

-- another innermost
sound-inner : (count : ℕ) (old new : Frame) (frames : List Frame) → (IsSoundFrame count old → IsSoundFrame count new)
    → All (IsSoundFrame count) (old ∷ frames) → All (IsSoundFrame count) (new ∷ frames)
sound-inner count old new frames on all = All-cons (IsSoundFrame count) new frames
    (on (All-head (IsSoundFrame count) old frames all)) (All-tail (IsSoundFrame count) old frames all)

pub scrap-sound : (count : ℕ) (scrap : Scrap) (frames : List Frame) → AreSoundScraps count (scrap ∷ [])
    → All (IsSoundFrame count) frames → All (IsSoundFrame count) (with_scrap scrap frames)
scrap-sound count scrap (CTextFrame scraps ∷ frames) new all =
    sound-inner count (CTextFrame scraps) (CTextFrame (scraps ++ scrap ∷ [])) frames (λ h. record {
      named = All-append (λ s. IsNamedBelow count s.tree) scraps (scrap ∷ []) h.named new.named;
      modes = All-append scrap_agrees scraps (scrap ∷ []) h.modes new.modes;
      fine = all-append is_fine scraps (scrap ∷ []) h.fine new.fine;
    }) all
scrap-sound _ _ _ _ all = all

pub item-sound : (count : ℕ) (item : CommentItem) (frames : List Frame) → IsNamedItem count item
    → All (IsSoundFrame count) frames → All (IsSoundFrame count) (with_item item frames)
item-sound count item (CommentFrame number items ∷ frames) new all = sound-inner count (CommentFrame number items)
    (CommentFrame number (items ++ item ∷ [])) frames (λ h. All-append (IsNamedItem count) items (item ∷ []) h
    (All-cons (IsNamedItem count) item [] new (λ k d h. absurd (omega arith)))) all
item-sound _ _ _ _ all = all
