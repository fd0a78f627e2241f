-- What holds of the trees of scraps holds of the tree that these are reduced to, where joining and reserving keep it.
use Rattle.cw_plain_laws.proofs.Terms.{◌≡◌, ℕ, zero, suc, List, [], ◌∷◌, ◌++◌, get_or, map, take, drop, refl, sym}
use Rattle.cw_plain_laws.proofs.Terms.{subst, arith, All, cases_lt, get_or_past, All-head, All-map, All-tail, Flags}
use Rattle.cw_plain_laws.proofs.Terms.{MathMode, Maybe, Scrap, no_scrap, JoinPiece, Whole, Mark, after, blank_and_whole}
use Rattle.cw_plain_laws.proofs.Terms.{dollar_before, scrap_in_text, joined_tree, needs, toggled, whole, Tree, Empty}
use Rattle.cw_plain_laws.proofs.Terms.{Then, Sub, Sign, reserve_first, Control}
use Rattle.cw_scraps.proofs.Keeping.{keeps-all}
use Rattle.cw_table.proofs.Normals.{steps-none, steps-turn}
use Rattle.cw_table.specs.{Productions.productions, declared.types.Piece.Piece, declared.types.Row.Row}
use Rattle.cw_table.specs.Normal.{Place, Nowhere, At, next_place, normal, steps, weight}
use Rattle.cw_table.specs.Rewriting.{State, joined_of, math_piece, rewrite, rewrite_from}
use Rattle.cw_plain_laws.proofs.Walks.{IsFree}
use Rattle.cw_trees.specs.declared.Control.TheVariants as control

abbrev pub OfScrap : (Tree → Type 0) → Scrap → Type 0
OfScrap T scrap = T scrap.tree

abbrev pub OfPiece : (Tree → Type 0) → JoinPiece → Type 0
OfPiece T (Whole tree left right) = T tree
OfPiece T (Mark c) = IsFree c

module _ (T : Tree → Type 0) (empty : T Empty) (subs : (a b : Tree) → T a → T b → T (Sub a b))
    (signs : (c : Control) (t : Tree) → IsFree c → T t → T (Then (Sign c) t))
    (reserves : (t : Tree) → T t → T (reserve_first t)) where
  -- ## Joining

  toggled-kept : (m l : MathMode) (t : Tree) → T t → T (toggled m l t)
  toggled-kept m l t h = grind arith

  joined-kept : (m : MathMode) (js : List JoinPiece) → All (OfPiece T) js → T (joined_tree m js)
  joined-kept m [] all = empty
  joined-kept m (Whole tree l r ∷ js) all =
      let rest : T (joined_tree (after m l r) js) = joined-kept (after m l r) js
      (All-tail (OfPiece T) (Whole tree l r) js all) in
      toggled-kept m l (Sub tree (joined_tree (after m l r) js))
      (subs tree (joined_tree (after m l r) js) (All-head (OfPiece T) (Whole tree l r) js all) rest)
  joined-kept m (Mark c ∷ js) all =
      let rest : T (joined_tree (after m (needs c) (needs c)) js) = joined-kept (after m (needs c) (needs c)) js
      (All-tail (OfPiece T) (Mark c) js all) in
      toggled-kept m (needs c) (Then (Sign c) (joined_tree (after m (needs c) (needs c)) js))
      (signs c (joined_tree (after m (needs c) (needs c)) js) (All-head (OfPiece T) (Mark c) js all) rest)

  math-kept : (tree : Tree) (l r : MathMode) → T tree → OfPiece T (math_piece tree l r)
  math-kept tree l r h = grind arith

  at-kept : (scraps : List Scrap) (k : ℕ) → All (OfScrap T) scraps → OfScrap T (get_or scraps k no_scrap)
  at-kept scraps k all = grind (arith, cases_lt, get_or_past)

  piece-kept : (scraps : List Scrap) (p : Piece) → All (OfScrap T) scraps → OfPiece T (joined_of scraps p)
  piece-kept scraps p all = grind (arith, at-kept, math-kept)

  -- ## Productions

  rewritten-kept : (flags : Flags) (row : Row) (place : ℕ) (scraps : List Scrap) → All (OfScrap T) scraps
      → All (OfScrap T) (take place scraps ++ rewrite_from flags row (drop place scraps))
  rewritten-kept flags row place scraps all = keeps-all (OfScrap T) empty (λ s h. reserves s.tree h) (λ cat s h. h)
      (λ cat ss pieces h. joined-kept Maybe (map (joined_of ss) pieces) (All-map (OfPiece T) (joined_of ss) pieces
      (λ k d lt. piece-kept ss (get_or pieces k d) h))) flags row place scraps all

  steps-kept : (rows : List Row) (flags : Flags) (n : ℕ) (st : State) → All (OfScrap T) st.scraps
      → All (OfScrap T) (steps rows flags n st).scraps
  steps-kept rows flags zero st all = all
  steps-kept rows flags (suc n) st all = go (next_place rows st) refl (λ s. steps-kept rows flags n s)
    where
      go : (p : Place) → next_place rows st ≡ p → ((s : State) → All (OfScrap T) s.scraps → All (OfScrap T)
          (steps rows flags n s).scraps) → All (OfScrap T) (steps rows flags (suc n) st).scraps
      go Nowhere e rec = subst (λ (s : State). All (OfScrap T) s.scraps) (sym (steps-none rows flags (suc n) st e)) all
      go (At i r) e rec = subst (λ (s : State). All (OfScrap T) s.scraps) (sym (steps-turn rows flags n i r st e))
          (rec (rewrite flags r i st) (rewritten-kept flags r i st.scraps all))

  normal-kept : (rows : List Row) (flags : Flags) (st : State) → All (OfScrap T) st.scraps
      → All (OfScrap T) (normal rows flags st).scraps
  unfolding normal
  normal-kept rows flags st all = steps-kept rows flags (weight st.scraps) st all

  -- ## What no production joins

  dollar-kept : (m : MathMode) (t : Tree) → T t → T (dollar_before m t)
  dollar-kept m t h = grind arith

  in_text-kept : (s : Scrap) (rest : Tree) → T s.tree → T rest → T (scrap_in_text s rest)
  in_text-kept s rest h r = grind (arith, dollar-kept)

  blank-kept : (scraps : List Scrap) → All (OfScrap T) scraps → T (blank_and_whole scraps)
  blank-kept [] all = empty
  blank-kept (s ∷ scraps) all = signs control.Blank (scrap_in_text s (blank_and_whole scraps)) tt
      (in_text-kept s (blank_and_whole scraps) (All-head (OfScrap T) s scraps all)
      (blank-kept scraps (All-tail (OfScrap T) s scraps all)))

  whole-kept : (scraps : List Scrap) → All (OfScrap T) scraps → T (whole scraps)
  whole-kept [] all = empty
  whole-kept (s ∷ scraps) all = in_text-kept s (blank_and_whole scraps) (All-head (OfScrap T) s scraps all)
      (blank-kept scraps (All-tail (OfScrap T) s scraps all))

  pub end-kept : (flags : Flags) (state : State) → All (OfScrap T) state.scraps
      → T (whole (normal productions flags state).scraps)
  end-kept flags state all = grind (arith, whole-kept, normal-kept)
