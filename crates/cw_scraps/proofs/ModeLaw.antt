-- What is joined of pieces that agree with their modes agrees with its own.
use Rattle.cw_scraps.proofs.Terms.{◌≡◌, List, [], ◌∷◌, Option, Some, refl, sym, ap, ◌∙◌, subst, arith, All, All-head}
use Rattle.cw_scraps.proofs.Terms.{All-tail, MathMode, Text, Math, Maybe, Control, Leaf, Sign, Tree, Empty, Then, Sub}
use Rattle.cw_scraps.proofs.Terms.{Inner, Search, search_leaf, first_ident, reserved_leaf, reserve_first, JoinPiece}
use Rattle.cw_scraps.proofs.Terms.{Whole, Mark, needs, after, first_mode, toggled, joined_tree, joined_left}
use Rattle.cw_scraps.proofs.Terms.{joined_right, stays, reads_sign, reads_leaf, leads_on, reads, Agrees, IsSteady}
use Rattle.cw_scraps.proofs.Terms.{piece_agrees, JoinsAgree}

-- a mode that is told
abbrev pub IsTold : MathMode → Type 0
IsTold Text = Unit {0}
IsTold Math = Unit {0}
IsTold Maybe = ⊥

agrees-told : (tree : Tree) (l r : MathMode) → IsTold l → IsTold r → reads tree l ≡ Some r → Agrees tree l r
agrees-told tree l r a b h = grind arith

-- a tree that agrees from a told mode
pub record Leads (tree : Tree) (l r : MathMode) : Type 0 where
  pub told : IsTold r
  pub reading : reads tree l ≡ Some r

leads : (tree : Tree) (l r : MathMode) → IsTold l → Agrees tree l r → Leads tree l r
leads tree Text Maybe a h = absurd h
leads tree Math Maybe a h = absurd h
leads tree Maybe r a h = absurd a
leads _ _ _ _ h = record { told = tt; reading = h }

-- one that agrees from Maybe
maybe-reads : (tree : Tree) (r : MathMode) → Agrees tree Maybe r → (m : MathMode) → reads tree m ≡ Some m
maybe-reads tree r h m = grind arith

pub agrees-same : (a b : Tree) (l r : MathMode) → ((m : MathMode) → reads a m ≡ reads b m) → Agrees b l r → Agrees a l r
agrees-same a b l r e h = grind arith

-- a toggle leads to the mode that the next piece needs
toggled-reads : (m l : MathMode) (tree : Tree) → IsTold m → IsTold l → reads (toggled m l tree) m ≡ reads tree l
toggled-reads m l tree a b = grind arith

toggled-maybe : (m : MathMode) (tree : Tree) → toggled m Maybe tree ≡ tree
toggled-maybe m tree = grind arith

after-told : (m l r : MathMode) → IsTold l → after m l r ≡ r
after-told m l r h = grind arith

first-told : (l later : MathMode) → IsTold l → first_mode l later ≡ l
first-told l later h = grind arith

data Told (m : MathMode) : Type 0 where
  is_told : IsTold m → Told m
  is_maybe : m ≡ Maybe → Told m

told : (m : MathMode) → Told m
told m = grind arith

steady-reads : (c : Control) (l : MathMode) → IsSteady c → needs c ≡ l → IsTold l → reads_sign c l ≡ Some l
steady-reads c l h e t = grind arith

-- from a told mode the joined tree leads to its right mode, which is told
pub record FromTold (m : MathMode) (js : List JoinPiece) : Type 0 where
  pub told_right : IsTold (joined_right m js)
  pub reading : reads (joined_tree m js) m ≡ Some (joined_right m js)

from-told : (m : MathMode) (js : List JoinPiece) → IsTold m → All piece_agrees js → FromTold m js
from-told m [] t all = record { told_right = t; reading = refl }
from-told m (Whole tree l r ∷ js) t all = go (told l)
    (λ n u. from-told n js u (All-tail piece_agrees (Whole tree l r) js all))
  where
    here : Agrees tree l r
    here = All-head piece_agrees (Whole tree l r) js all

    go : Told l → ((n : MathMode) → IsTold n → FromTold n js) → FromTold m (Whole tree l r ∷ js)
    go (is_told tl) rec =
        let w : Leads tree l r = leads tree l r tl here in
        let f : FromTold r js = rec r w.told in
        record {
          told_right = subst (λ n. IsTold (joined_right n js)) (sym (after-told m l r tl)) f.told_right;
          reading = toggled-reads m l (Sub tree (joined_tree (after m l r) js)) t tl ∙ (ap (λ n. leads_on (reads tree l)
              (reads (joined_tree n js))) (after-told m l r tl) ∙ (ap (λ o. leads_on o (reads (joined_tree r js)))
              w.reading ∙ (f.reading ∙ ap (λ n. Some (joined_right n js)) (sym (after-told m l r tl)))));
        }
    go (is_maybe e) rec =
        let h : Agrees tree Maybe r = subst (λ n. Agrees tree n r) e here in
        let f : FromTold m js = rec m t in
        let same : after m l r ≡ m = ap (λ n. after m n r) e in
        record {
          told_right = subst (λ n. IsTold (joined_right n js)) (sym same) f.told_right;
          reading = ap (λ n. reads (toggled m n (Sub tree (joined_tree (after m l r) js))) m) e
              ∙ (ap (λ s. reads s m) (toggled-maybe m (Sub tree (joined_tree (after m l r) js))) ∙ (ap (λ n. leads_on
              (reads tree m) (reads (joined_tree n js))) same ∙ (ap (λ o. leads_on o (reads (joined_tree m js)))
              (maybe-reads tree r h m) ∙ (f.reading ∙ ap (λ n. Some (joined_right n js)) (sym same)))));
        }
from-told m (Mark c ∷ js) t all = go (needs c) refl (told (needs c))
    (λ n u. from-told n js u (All-tail piece_agrees (Mark c) js all))
  where
    here : IsSteady c
    here = All-head piece_agrees (Mark c) js all

    go : (n : MathMode) → needs c ≡ n → Told n → ((k : MathMode) → IsTold k → FromTold k js) → FromTold m (Mark c ∷ js)
    go n e (is_told tn) rec =
        let f : FromTold n js = rec n tn in
        let next : after m (needs c) (needs c) ≡ n = ap (λ k. after m k k) e ∙ after-told m n n tn in
        record {
          told_right = subst (λ k. IsTold (joined_right k js)) (sym next) f.told_right;
          reading = ap (λ k. reads (toggled m k (Then (Sign c) (joined_tree (after m (needs c) (needs c)) js))) m) e
              ∙ (toggled-reads m n (Then (Sign c) (joined_tree (after m (needs c) (needs c)) js)) t tn ∙ (ap (λ k.
              leads_on (reads_sign c n) (reads (joined_tree k js))) next ∙ (ap (λ o. leads_on o (reads (joined_tree n
              js))) (steady-reads c n here e tn) ∙ (f.reading ∙ ap (λ k. Some (joined_right k js)) (sym next)))));
        }
    go n e (is_maybe d) rec =
        let f : FromTold m js = rec m t in
        let none : needs c ≡ Maybe = e ∙ d in
        let next : after m (needs c) (needs c) ≡ m = ap (λ k. after m k k) none in
        record {
          told_right = subst (λ k. IsTold (joined_right k js)) (sym next) f.told_right;
          reading = ap (λ k. reads (toggled m k (Then (Sign c) (joined_tree (after m (needs c) (needs c)) js))) m) none
              ∙ (ap (λ s. reads s m) (toggled-maybe m (Then (Sign c) (joined_tree (after m (needs c) (needs c)) js)))
              ∙ (ap (λ k. leads_on (reads_sign c m) (reads (joined_tree k js))) next
              ∙ (ap (λ o. leads_on o (reads (joined_tree m js))) (here m ∙ ap (λ k. stays k m) none)
              ∙ (f.reading ∙ ap (λ k. Some (joined_right k js)) (sym next)))));
        }

-- from the beginning
pub join-agrees : JoinsAgree
join-agrees [] all = λ m. refl
join-agrees (Whole tree l r ∷ js) all = go (told l) (join-agrees js (All-tail piece_agrees (Whole tree l r) js all))
  where
    here : Agrees tree l r
    here = All-head piece_agrees (Whole tree l r) js all

    go : Told l → Agrees (joined_tree Maybe js) (joined_left js) (joined_right Maybe js) → Agrees (joined_tree Maybe
        (Whole tree l r ∷ js)) (joined_left (Whole tree l r ∷ js)) (joined_right Maybe (Whole tree l r ∷ js))
    go (is_told tl) rec =
        let w : Leads tree l r = leads tree l r tl here in
        let f : FromTold r js = from-told r js w.told (All-tail piece_agrees (Whole tree l r) js all) in
        let next : after Maybe l r ≡ r = after-told Maybe l r tl in
        rw (first-told l (joined_left js) tl, next) (agrees-told (Sub tree (joined_tree r js)) l (joined_right r js) tl
        f.told_right (ap (λ o. leads_on o (reads (joined_tree r js))) w.reading ∙ f.reading))
    go (is_maybe e) rec =
        let h : Agrees tree Maybe r = subst (λ n. Agrees tree n r) e here in
        rw e (agrees-same (Sub tree (joined_tree Maybe js)) (joined_tree Maybe js) (joined_left js)
        (joined_right Maybe js) (λ m. ap (λ o. leads_on o (reads (joined_tree Maybe js))) (maybe-reads tree r h m))
        rec)
join-agrees (Mark c ∷ js) all = go (needs c) refl (told (needs c))
    (join-agrees js (All-tail piece_agrees (Mark c) js all))
  where
    here : IsSteady c
    here = All-head piece_agrees (Mark c) js all

    go : (n : MathMode) → needs c ≡ n → Told n → Agrees (joined_tree Maybe js) (joined_left js) (joined_right Maybe js)
        → Agrees (joined_tree Maybe (Mark c ∷ js)) (joined_left (Mark c ∷ js)) (joined_right Maybe (Mark c ∷ js))
    go n e (is_told tn) rec =
        let f : FromTold n js = from-told n js tn (All-tail piece_agrees (Mark c) js all) in
        rw (e, first-told n (joined_left js) tn, after-told Maybe n n tn)
        (agrees-told (Then (Sign c) (joined_tree n js)) n (joined_right n js) tn f.told_right
        (ap (λ o. leads_on o (reads (joined_tree n js))) (steady-reads c n here e tn) ∙ f.reading))
    go n e (is_maybe d) rec = rw (e, d) (agrees-same (Then (Sign c) (joined_tree Maybe js)) (joined_tree Maybe js)
        (joined_left js) (joined_right Maybe js)
        (λ m. ap (λ o. leads_on o (reads (joined_tree Maybe js))) (here m ∙ ap (λ k. stays k m) (e ∙ d))) rec)

-- an identifier and a reserved word need no mode
reserved-leaf-reads : (leaf : Leaf) (m : MathMode) → reads_leaf (reserved_leaf leaf) m ≡ reads_leaf leaf m
reserved-leaf-reads leaf m = grind arith

same-leads : (o : Option MathMode) (f g : MathMode → Option MathMode) → ((m : MathMode) → f m ≡ g m) → leads_on o f
    ≡ leads_on o g
same-leads o f g h = grind arith

reserve-then-reads : (s : Search) (leaf : Leaf) (rest : Tree) (m : MathMode) → search_leaf leaf ≡ s → ((n : MathMode)
    → reads (reserve_first rest) n ≡ reads rest n) → reads (reserve_first (Then leaf rest)) m ≡ reads (Then leaf rest) m
reserve-then-reads s leaf rest m e rec = grind (arith, reserved-leaf-reads, same-leads)

reserve-sub-reads : (s : Search) (tree rest : Tree) (m : MathMode) → first_ident tree ≡ s → ((n : MathMode) → reads
    (reserve_first tree) n ≡ reads tree n) → ((n : MathMode) → reads (reserve_first rest) n ≡ reads rest n)
    → reads (reserve_first (Sub tree rest)) m ≡ reads (Sub tree rest) m
reserve-sub-reads s tree rest m e here rec = grind (arith, same-leads)

pub reserve-reads : (t : Tree) (m : MathMode) → reads (reserve_first t) m ≡ reads t m
reserve-reads Empty m = refl
reserve-reads (Then leaf rest) m = reserve-then-reads (search_leaf leaf) leaf rest m refl (λ n. reserve-reads rest n)
reserve-reads (Sub tree rest) m = reserve-sub-reads (first_ident tree) tree rest m refl (λ n. reserve-reads tree n)
    (λ n. reserve-reads rest n)
reserve-reads (Inner tree rest) m = reserve-reads rest m
