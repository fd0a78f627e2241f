-- A production changes what is seen of scraps as it changes the scraps, and so the two have the same log.
use Rattle.cw_leaves.proofs.Terms.{◌≡◌, ℕ, zero, suc, ◌+◌, eqb, Option, Some, None, List, [], ◌∷◌, ◌++◌, refl, sym, ◌∙◌}
use Rattle.cw_leaves.proofs.Terms.{ap, map, take, drop, set, get_or, arith, map-append, map-set, take-map, drop-map}
use Rattle.cw_leaves.proofs.Terms.{get_or-map, Flags, MathMode, search_sign, Scrap, no_scrap, JoinPiece, Whole, Mark}
use Rattle.cw_leaves.proofs.Terms.{joined_tree, needs, after, Action, Piece, Row, Place, Nowhere, At, least_place}
use Rattle.cw_leaves.proofs.Terms.{weight, Production, log_of}
use Rattle.cw_table.specs.Rewriting.{cats_of, joined_of, new_scrap, search_in, reserved_in, reserved_at, bolded}
use Rattle.cw_table.specs.Rewriting.{bolded_at, worded_at, named_scrap, named_right, rewrite_from, State, rewrite}
use Rattle.cw_table.specs.Normal.{log}
use Rattle.cw_leaves.specs.Sights.{Utterance, silence, followed, told_by, heard, Sight, sight, no_sight, seen_cats}
use Rattle.cw_leaves.specs.Sights.{heard_all, seen_new, seen_reserved, seen_reserved_at, seen_named, seen_named_by}
use Rattle.cw_leaves.specs.Sights.{seen_bolded, seen_bolded_at, seen_worded_at, names_at, seen_rewritten_from}
use Rattle.cw_leaves.specs.Sights.{seen_rewritten, seen_weight, seen_log_of, seen_log}
use Rattle.cw_table.proofs.ScrapFacts.{joined-bare, reserve-bare}
use Rattle.cw_leaves.proofs.SightFacts.{first-heard, heard-reserved, heard-toggled}

-- what is heard of pieces
abbrev piece_heard : JoinPiece → Utterance ℕ
piece_heard (Whole tree left right) = heard tree
piece_heard (Mark control) = told_by (search_sign control)

abbrev pieces_heard : List JoinPiece → Utterance ℕ
pieces_heard [] = silence
pieces_heard (j ∷ js) = followed (piece_heard j) (pieces_heard js)

joined-heard : (m : MathMode) (js : List JoinPiece) → heard (joined_tree m js) ≡ pieces_heard js
joined-heard m [] = refl
joined-heard m (Whole t l r ∷ js) = grind (arith, joined-heard (after m l r) js, heard-toggled)
joined-heard m (Mark c ∷ js) = grind (arith, joined-heard (after m (needs c) (needs c)) js, heard-toggled)

-- the scrap of a number
get-sight : (ss : List Scrap) (k : ℕ) → get_or (map sight ss) k no_sight ≡ sight (get_or ss k no_scrap)
get-sight ss k = get_or-map sight ss k no_scrap

pieces-heard : (ss : List Scrap) (ps : List Piece) → pieces_heard (map (joined_of ss) ps) ≡ heard_all (map sight ss) ps
pieces-heard ss [] = refl
pieces-heard ss (p ∷ ps) = grind (arith, pieces-heard ss ps, get-sight)

-- categories
pub seen-cats : (ss : List Scrap) → seen_cats (map sight ss) ≡ cats_of ss
seen-cats [] = refl
seen-cats (s ∷ ss) = ap (λ cs. s.cat ∷ cs) (seen-cats ss)

-- reserving
reserved-seen : (s : Scrap) → sight (reserved_in s) ≡ seen_reserved (sight s)
reserved-seen s = grind (arith, reserve-bare, heard-reserved)

bolded-seen : (s : Scrap) → sight (bolded s) ≡ seen_bolded (sight s)
bolded-seen s = grind (arith, reserved-seen)

reserved-at-seen : (o : Option ℕ) (ss : List Scrap)
    → map sight (reserved_at o ss) ≡ seen_reserved_at o (map sight ss)
reserved-at-seen o ss = grind (arith, map-set, reserve-bare, heard-reserved, get-sight)

bolded-at-seen : (o : Option ℕ) (ss : List Scrap) → map sight (bolded_at o ss) ≡ seen_bolded_at o (map sight ss)
bolded-at-seen None ss = refl
bolded-at-seen (Some k) ss = map-set sight ss k (bolded (get_or ss k no_scrap)) ∙ ap (set (map sight ss) k)
    (bolded-seen (get_or ss k no_scrap) ∙ ap seen_bolded (sym (get-sight ss k)))

worded-seen : (a : Action) (ss : List Scrap) → map sight (worded_at a ss) ≡ seen_worded_at a (map sight ss)
worded-seen a ss = bolded-at-seen a.bold (reserved_at a.reserve ss)
    ∙ ap (seen_bolded_at a.bold) (reserved-at-seen a.reserve ss)

all-named : (n : ℕ) (ss : List Scrap) → map sight (map (named_scrap n) ss) ≡ map (seen_named eqb n) (map sight ss)
all-named n [] = refl
all-named n (s ∷ ss) = grind (arith, all-named n ss, reserved-seen)

-- one production
from-seen : (f : Flags) (r : Row) (ss : List Scrap)
    → map sight (rewrite_from f r ss) ≡ seen_rewritten_from eqb f r (map sight ss)
from-seen f r ss =
    let named : List Scrap = worded_at r.action ss in
    let seen : List (Sight ℕ) = seen_worded_at r.action (map sight ss) in
    let same : map sight named ≡ seen = worded-seen r.action ss in
    let later : List Scrap = drop (r.offset + r.replaced) named in
    map-append sight (take r.offset named) (new_scrap f r named ∷ named_right (search_in r.action.reserve ss) later)
    ∙ (ap (λ xs. xs ++ sight (new_scrap f r named) ∷ map sight (named_right (search_in r.action.reserve ss) later))
    (sym (take-map sight r.offset named) ∙ ap (take r.offset) same) ∙ (ap (λ x. take r.offset seen ++ x ∷ map sight
    (named_right (search_in r.action.reserve ss) later)) ((grind (
      arith,
      get-sight,
      joined-bare,
      joined-heard,
      pieces-heard,
      seen-cats,
    )) ∙ ap (seen_new f r) same) ∙ ap (λ xs. take r.offset seen ++ seen_new f r seen ∷ xs)
    ((grind (arith, first-heard, all-named, get-sight)) ∙ ap (seen_named_by eqb (names_at r.action.reserve
    (map sight ss))) (sym (drop-map sight (r.offset + r.replaced) named) ∙ ap (drop (r.offset + r.replaced)) same))))

pub rewrite-seen : (f : Flags) (r : Row) (place : ℕ) (state : State)
    → map sight (rewrite f r place state).scraps ≡ seen_rewritten eqb f r place (map sight state.scraps)
rewrite-seen f r place state = map-append sight (take place state.scraps) (rewrite_from f r (drop place state.scraps))
    ∙ (ap (λ xs. xs ++ map sight (rewrite_from f r (drop place state.scraps))) (sym (take-map sight place state.scraps))
    ∙ ap (λ xs. take place (map sight state.scraps) ++ xs) (from-seen f r (drop place state.scraps)
    ∙ ap (seen_rewritten_from eqb f r) (sym (drop-map sight place state.scraps))))

pub weight-seen : (ss : List Scrap) → weight ss ≡ seen_weight (map sight ss)
weight-seen [] = refl
weight-seen (s ∷ ss) = grind (arith, weight-seen ss)

-- the log
pub log-seen-of : (rows : List Row) (f : Flags) (n : ℕ) (state : State)
    → log_of rows f n state ≡ seen_log_of eqb rows f n (map sight state.scraps)
log-seen-of rows f zero state = refl
log-seen-of rows f (suc n) state = go (λ p r. log-seen-of rows f n (rewrite f r p state))
    (least_place rows 0 (cats_of state.scraps)) ∙ ap (λ cs. elim (least_place rows 0 cs) [
      | Nowhere ↦ []
      | At place row ↦ record { number = row.number.number; place = place }
          ∷ seen_log_of eqb rows f n (seen_rewritten eqb f row place (map sight state.scraps))
    ]) (sym (seen-cats state.scraps))
  where
    go : ((p : ℕ) (r : Row) → log_of rows f n (rewrite f r p state) ≡ seen_log_of eqb rows f n
        (map sight (rewrite f r p state).scraps)) → (p : Place) → ◌≡◌ {A = List Production} (elim p [
          | Nowhere ↦ []
          | At place row ↦ record { number = row.number.number; place = place }
              ∷ log_of rows f n (rewrite f row place state)
        ]) (elim p [
          | Nowhere ↦ []
          | At place row ↦ record { number = row.number.number; place = place }
              ∷ seen_log_of eqb rows f n (seen_rewritten eqb f row place (map sight state.scraps))
        ])
    go rec Nowhere = refl
    go rec (At place row) = ap (λ l. record { number = row.number.number; place = place } ∷ l) (rec place row
        ∙ ap (seen_log_of eqb rows f n) (rewrite-seen f row place state))

pub log-seen : (rows : List Row) (f : Flags) (state : State)
    → log rows f state ≡ seen_log eqb rows f (map sight state.scraps)
unfolding log seen_log
log-seen rows f state = grind (arith, log-seen-of, weight-seen)
