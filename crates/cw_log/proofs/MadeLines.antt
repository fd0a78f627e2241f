-- A line of scraps that are made of leaf lines, one behind another.
use Rattle.cw_log.proofs.Terms.{◌≡◌, ℕ, zero, suc, ◌+◌, ◌<◌, true, None, List, [], ◌∷◌, ◌++◌, length, map, get_or}
use Rattle.cw_log.proofs.Terms.{slice_get, All, refl, sym, ◌∙◌, ap, subst, arith, length-map, map-append, NameId, Entry}
use Rattle.cw_log.proofs.Terms.{Scrap, Tree, LeafKind, LeafLine, said, text_at, HasNoMark, IsIdentEntry, IsTold}
use Rattle.cw_log.proofs.Terms.{line_by, line_of, spelled, AreIdents, IsFineLine, fits_kind, all-append, all-cons}
use Rattle.cw_log.proofs.Terms.{LineEntry, seen, scraps_of, IsSoundLine, leaf-sound, Token, IsTied, tree_in, trees_from}
use Rattle.cw_log.proofs.Terms.{unfolded, StoredLists, unfolded-old, unfolded-new, ident_token, last_tokens, made_form}
use Rattle.cw_log.proofs.Terms.{made_tokens}
use Rattle.cw_names.specs.Words.{built_in_words, words_of, BeginsWithWords}
use Rattle.cw_scraps.specs.{declared.leaves.Leaf.Leaf, Leaves.HasForm, Leaves.entry_of}
use Rattle.cw_scraps.proofs.{Productions.seen-line, Reservings.entry-there}
use Rattle.cw_log.proofs.MakingLaws.{made-good, made-line, said-made}
use Rattle.cw_leaves.specs.declared.kinds.LeafKind.TheVariants as kinds

-- there is a name for the word like `case`
pub some-word : (names : List Entry) → BeginsWithWords names → 0 < length names
unfolding BeginsWithWords
some-word [] begins = let e : [] ≡ words_of built_in_words ++ begins.0 = begins.1 in absurd cc
some-word (entry ∷ entries) begins = omega arith

-- ## What is told of it

unmarked-idents : (trees : List Tree) (ids : List NameId) (last : List Token) → HasNoMark (tree_in trees last)
    → HasNoMark (tree_in trees (map ident_token ids ++ last))
unmarked-idents trees [] last h = h
unmarked-idents trees (id ∷ ids) last h = (tt, unmarked-idents trees ids last h)

unmarked-last : (trees : List Tree) (word : NameId) (kind : LeafKind)
    → HasNoMark (tree_in trees (last_tokens word kind))
unmarked-last trees word kinds.B = tt
unmarked-last trees word kinds.C = (tt, tt)
unmarked-last trees word kinds.I = (tt, tt)
unmarked-last trees word kinds.S = tt

told-names : (names : List Entry) (ids : List NameId) → AreIdents names ids
    → All (λ name. IsIdentEntry (slice_get names name)) (map (λ id. id.index) ids ++ [])
told-names names [] h = λ i d lt. absurd (omega (arith, lt))
told-names names (id ∷ ids) h = all-cons (λ name. IsIdentEntry (slice_get names name)) id.index
    (map (λ i. i.index) ids ++ []) (h 0 id (omega arith)) (told-names names ids (λ i d lt. h (suc i) d (omega arith)))

told-made : (names : List Entry) (trees : List Tree) (word : NameId) (leaf : LeafLine) → AreIdents names leaf.names
    → (scrap : Scrap) → scrap.tree ≡ tree_in trees (made_tokens word leaf) → IsTold names scrap
told-made names trees word leaf idents scrap is = record {
  unmarked = subst HasNoMark (sym is) (unmarked-idents trees leaf.names (last_tokens word leaf.kind)
      (unmarked-last trees word leaf.kind));
  idents = subst (λ ns. All (λ name. IsIdentEntry (slice_get names name)) ns) (sym (ap (λ t. (said t).names) is
      ∙ said-made trees word leaf.kind leaf.names)) (told-names names leaf.names idents);
}

-- ## One leaf after another

-- The line has these leaf lines, of which its scraps tell all, and is sound.
pub record MadeSoFar (names : List Entry) (store : StoredLists) (line : List LineEntry) (leaves : List LeafLine)
    : Type 0 where
  pub lines : map line_of (scraps_of store.lists line) ≡ leaves
  pub told : All (IsTold names) (scraps_of store.lists line)
  pub sound : IsSoundLine store names line

pub none-made : (names : List Entry) (store : StoredLists) → store.building ≡ None → MadeSoFar names store [] []
none-made names store idle = record {
  lines = refl;
  told = λ i d h. absurd (omega arith);
  sound = record {
    idle = idle;
    roots = record {
      there = λ i h. absurd (omega arith);
      free = λ i h l p q. omega arith;
      apart = λ i j h k q. absurd (omega arith);
    };
    named = λ i d h. absurd (omega arith);
    modes = λ i d h. absurd (omega arith);
    fine = refl;
  };
}

known-below : (names : List Entry) (ids : List NameId) → AreIdents names ids → All (λ id. id.index < length names) ids
known-below names ids h = λ i d lt. below names (get_or ids i d).index (h i d lt)
  where
    below : (es : List Entry) (n : ℕ) → IsIdentEntry (slice_get es n) → n < length es
    below [] zero k = absurd k
    below [] (suc n) k = absurd k
    below (e ∷ es) zero k = omega arith
    below (e ∷ es) (suc n) k = omega (arith, below es n k)

pub one-made : (names : List Entry) (old new : StoredLists) (line : List LineEntry) (leaves : List LeafLine)
    (leaf : LeafLine) (made : Leaf) (word : NameId) → word.index < length names → AreIdents names leaf.names
    → IsFineLine (spelled names leaf) → HasForm (made_form word leaf) made old.lists new.lists → IsTied old.lists
    → new.building ≡ None → MadeSoFar names old line leaves
    → MadeSoFar names new (line ++ entry_of made ∷ []) (leaves ++ leaf ∷ [])
one-made names old new line leaves leaf made word lt idents fine has tied idle s =
    let before : scraps_of new.lists line ≡ scraps_of old.lists line = seen-line old.lists new.lists line
    (λ k h. ap (λ ls. unfolded ls k) has.lists ∙ unfolded-old old.lists (made_tokens word leaf) k h)
    (λ i h. entry-there old.lists line i s.sound.roots h) in
    let tree : unfolded new.lists made.list.index ≡ tree_in (trees_from [] old.lists) (made_tokens word leaf) =
    ap (unfolded new.lists) has.list ∙ (ap (λ ls. unfolded ls (length old.lists)) has.lists
    ∙ unfolded-new old.lists (made_tokens word leaf)) in
    let all : scraps_of new.lists (line ++ entry_of made ∷ [])
    ≡ scraps_of old.lists line ++ seen new.lists (entry_of made) ∷ [] = map-append (seen new.lists) line
    (entry_of made ∷ []) ∙ ap (λ ss. ss ++ seen new.lists (entry_of made) ∷ []) before in
    let fits : fits_kind leaf.kind leaf.cat (length leaf.names) ≡ true = ap (fits_kind leaf.kind leaf.cat)
    (sym (length-map leaf.names (λ (id : NameId). text_at names id.index))) ∙ fine.kind in
    let last : line_of (seen new.lists (entry_of made)) ≡ leaf = ap
    (λ c. line_by c (unfolded new.lists made.list.index)) has.cat
    ∙ (ap (line_by leaf.cat) tree ∙ made-line (trees_from [] old.lists) word leaf.kind leaf.cat leaf.names fits) in
    record {
      lines = ap (map line_of) all
          ∙ (map-append line_of (scraps_of old.lists line) (seen new.lists (entry_of made) ∷ [])
          ∙ (ap (λ ls. ls ++ line_of (seen new.lists (entry_of made)) ∷ []) s.lines ∙ ap (λ l. leaves ++ l ∷ []) last));
      told = subst (All (IsTold names)) (sym all) (all-append (IsTold names) (scraps_of old.lists line)
          (seen new.lists (entry_of made) ∷ []) s.told (all-cons (IsTold names) (seen new.lists (entry_of made)) []
          (told-made names (trees_from [] old.lists) word leaf idents (seen new.lists (entry_of made)) tree)
          (λ i d h. absurd (omega (arith, h)))));
      sound = leaf-sound (made_form word leaf) made old new names names line (made-good (length names) word leaf lt
          (known-below names leaf.names idents) fits) has tied idle (omega arith) s.sound;
    }

-- ## Which leaf is the next

pub fine-at : (names : List Entry) (leaves : List LeafLine) (i : ℕ) (leaf : LeafLine) → i < length leaves
    → leaf ≡ get_or leaves i leaf → All IsFineLine (map (spelled names) leaves) → IsFineLine (spelled names leaf)
fine-at names [] i leaf lt is all = absurd (omega (arith, lt))
fine-at names (l ∷ ls) zero leaf lt is all =
    subst (λ x. IsFineLine (spelled names x)) (sym is) (all 0 (spelled names l) (omega arith))
fine-at names (l ∷ ls) (suc i) leaf lt is all = fine-at names ls i leaf (omega (arith, lt)) is
    (λ k d h. all (suc k) d (omega (arith, h)))

pub idents-at : (names : List Entry) (leaves : List LeafLine) (i : ℕ) (leaf : LeafLine) → i < length leaves
    → leaf ≡ get_or leaves i leaf → All (λ l. AreIdents names l.names) leaves → AreIdents names leaf.names
idents-at names leaves i leaf lt is all = subst (λ l. AreIdents names l.names) (sym is) (all i leaf lt)
