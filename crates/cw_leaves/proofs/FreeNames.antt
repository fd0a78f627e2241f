-- Other names leave the log as it is, where no two become one.
use Rattle.cw_leaves.proofs.Terms.{◌≡◌, ℕ, zero, suc, ◌+◌, Bool, Option, Some, None, List, [], ◌∷◌, ◌++◌, refl, sym}
use Rattle.cw_leaves.proofs.Terms.{◌∙◌, ap, map}
use Rattle.cw_leaves.proofs.Terms.{take, drop, set, get_or, if◌then◌else◌, arith, map-append, map-set, take-map}
use Rattle.cw_leaves.proofs.Terms.{drop-map}
use Rattle.cw_leaves.proofs.Terms.{get_or-map, Flags, Action, Piece, Row, Place, Nowhere, At, least_place, Production}
use Rattle.cw_base.specs.declared.category.Cat.TheVariants.{RawInt}
use Rattle.cw_leaves.specs.Sights.{Sight, no_sight, seen_cats, heard_all, seen_as, seen_new, seen_reserved}
use Rattle.cw_leaves.specs.Sights.{seen_bolded, seen_bolded_at, seen_worded_at, seen_reserved_at, seen_named}
use Rattle.cw_leaves.specs.Sights.{seen_named_by, names_at, seen_rewritten_from}
use Rattle.cw_leaves.specs.Sights.{seen_rewritten, seen_weight, seen_log_of, seen_log}
use Rattle.cw_leaves.specs.model.Sights.{renamed_heard, renamed}
use Rattle.cw_leaves.specs.Sights.{without_first}

get-renamed : {M N : Type 0} (f : M → N) (ss : List (Sight M)) (k : ℕ)
    → get_or (map (renamed f) ss) k no_sight ≡ renamed f (get_or ss k no_sight)
get-renamed f ss k = get_or-map (renamed f) ss k no_sight

all-renamed : {M N : Type 0} (f : M → N) (ss : List (Sight M)) (ps : List Piece)
    → renamed_heard f (heard_all ss ps) ≡ heard_all (map (renamed f) ss) ps
all-renamed f ss [] = refl
all-renamed f ss (p ∷ ps) = grind (arith, all-renamed f ss ps, map-append, get-renamed)

cats-renamed : {M N : Type 0} (f : M → N) (ss : List (Sight M)) → seen_cats (map (renamed f) ss) ≡ seen_cats ss
cats-renamed f [] = refl
cats-renamed f (s ∷ ss) = ap (λ cs. s.cat ∷ cs) (cats-renamed f ss)

without-renamed : {M N : Type 0} (f : M → N) (names : List M)
    → map f (without_first names) ≡ without_first (map f names)
without-renamed f names = grind arith

bolded-renamed : {M N : Type 0} (f : M → N) (s : Sight M) → renamed f (seen_bolded s) ≡ seen_bolded (renamed f s)
bolded-renamed f s = grind (arith, without-renamed)

bolded-at-renamed : {M N : Type 0} (f : M → N) (o : Option ℕ) (ss : List (Sight M))
    → map (renamed f) (seen_bolded_at o ss) ≡ seen_bolded_at o (map (renamed f) ss)
bolded-at-renamed f None ss = refl
bolded-at-renamed f (Some k) ss = map-set (renamed f) ss k (seen_bolded (get_or ss k no_sight))
    ∙ ap (set (map (renamed f) ss) k) (bolded-renamed f (get_or ss k no_sight)
    ∙ ap seen_bolded (sym (get-renamed f ss k)))

reserved-at-renamed : {M N : Type 0} (f : M → N) (o : Option ℕ) (ss : List (Sight M))
    → map (renamed f) (seen_reserved_at o ss) ≡ seen_reserved_at o (map (renamed f) ss)
reserved-at-renamed f o ss = grind (arith, map-set, without-renamed, get-renamed)

worded-renamed : {M N : Type 0} (f : M → N) (a : Action) (ss : List (Sight M))
    → map (renamed f) (seen_worded_at a ss) ≡ seen_worded_at a (map (renamed f) ss)
worded-renamed f a ss = bolded-at-renamed f a.bold (seen_reserved_at a.reserve ss)
    ∙ ap (seen_bolded_at a.bold) (reserved-at-renamed f a.reserve ss)

turned-renamed : {M N : Type 0} (f : M → N) (b : Bool) (s : Sight M) → renamed f (if b then seen_as RawInt
    (seen_reserved s) else s) ≡ (if b then seen_as RawInt (seen_reserved (renamed f s)) else renamed f s)
turned-renamed f b s = grind (arith, without-renamed)

all-named-renamed : {M N : Type 0} (same : M → M → Bool) (other : N → N → Bool) (f : M → N)
    → ((a b : M) → other (f a) (f b) ≡ same a b) → (n : M) (ss : List (Sight M))
    → map (renamed f) (map (seen_named same n) ss) ≡ map (seen_named other (f n)) (map (renamed f) ss)
all-named-renamed same other f free n [] = refl
all-named-renamed same other f free n (s ∷ ss) = grind (arith, all-named-renamed same other f free n ss, turned-renamed)

names-at-renamed : {M N : Type 0} (f : M → N) (o : Option ℕ) (ss : List (Sight M))
    → map f (names_at o ss) ≡ names_at o (map (renamed f) ss)
names-at-renamed f o ss = grind (arith, get-renamed)

rewritten-from-renamed : {M N : Type 0} (same : M → M → Bool) (other : N → N → Bool) (f : M → N)
    → ((a b : M) → other (f a) (f b) ≡ same a b) → (flags : Flags) (r : Row) (ss : List (Sight M))
    → map (renamed f) (seen_rewritten_from same flags r ss) ≡ seen_rewritten_from other flags r (map (renamed f) ss)
rewritten-from-renamed {M} {N} same other f free flags r ss =
    let named : List (Sight M) = seen_worded_at r.action ss in
    let seen : List (Sight N) = seen_worded_at r.action (map (renamed f) ss) in
    let is : map (renamed f) named ≡ seen = worded-renamed f r.action ss in
    let later : List (Sight M) = drop (r.offset + r.replaced) named in
    let names : List M = names_at r.action.reserve ss in
    map-append (renamed f) (take r.offset named) (seen_new flags r named ∷ seen_named_by same names later)
    ∙ (ap (λ xs. xs ++ renamed f (seen_new flags r named) ∷ map (renamed f) (seen_named_by same names later))
    (sym (take-map (renamed f) r.offset named) ∙ ap (take r.offset) is) ∙ (ap (λ x. take r.offset seen
    ++ x ∷ map (renamed f) (seen_named_by same names later)) ((grind (arith, get-renamed, all-renamed, cats-renamed))
    ∙ ap (seen_new flags r) is) ∙ ap (λ xs. take r.offset seen ++ seen_new flags r seen ∷ xs)
    ((grind (arith, all-named-renamed)) ∙ (ap (λ ns. seen_named_by other ns (map (renamed f) later))
    (names-at-renamed f r.action.reserve ss) ∙ ap (seen_named_by other (names_at r.action.reserve (map (renamed f) ss)))
    (sym (drop-map (renamed f) (r.offset + r.replaced) named) ∙ ap (drop (r.offset + r.replaced)) is)))))

rewritten-renamed : {M N : Type 0} (same : M → M → Bool) (other : N → N → Bool) (f : M → N)
    → ((a b : M) → other (f a) (f b) ≡ same a b) → (flags : Flags) (r : Row) (place : ℕ) (ss : List (Sight M))
    → map (renamed f) (seen_rewritten same flags r place ss) ≡ seen_rewritten other flags r place (map (renamed f) ss)
rewritten-renamed same other f free flags r place ss = map-append (renamed f) (take place ss)
    (seen_rewritten_from same flags r (drop place ss)) ∙ (ap (λ xs. xs ++ map (renamed f)
    (seen_rewritten_from same flags r (drop place ss))) (sym (take-map (renamed f) place ss))
    ∙ ap (λ xs. take place (map (renamed f) ss) ++ xs) (rewritten-from-renamed same other f free flags r (drop place ss)
    ∙ ap (seen_rewritten_from other flags r) (sym (drop-map (renamed f) place ss))))

weight-renamed : {M N : Type 0} (f : M → N) (ss : List (Sight M)) → seen_weight (map (renamed f) ss) ≡ seen_weight ss
weight-renamed f [] = refl
weight-renamed f (s ∷ ss) = grind (arith, weight-renamed f ss)

log-renamed-of : {M N : Type 0} (same : M → M → Bool) (other : N → N → Bool) (f : M → N)
    → ((a b : M) → other (f a) (f b) ≡ same a b) → (rows : List Row) (flags : Flags) (n : ℕ) (ss : List (Sight M))
    → seen_log_of other rows flags n (map (renamed f) ss) ≡ seen_log_of same rows flags n ss
log-renamed-of same other f free rows flags zero ss = refl
log-renamed-of {M} {N} same other f free rows flags (suc n) ss = ap (λ cs. elim (least_place rows 0 cs) [
  | Nowhere ↦ []
  | At place row ↦ record { number = row.number.number; place = place }
      ∷ seen_log_of other rows flags n (seen_rewritten other flags row place (map (renamed f) ss))
]) (cats-renamed f ss) ∙ go (λ p r. log-renamed-of same other f free rows flags n
    (seen_rewritten same flags r p ss)) (least_place rows 0 (seen_cats ss))
  where
    go : ((p : ℕ) (r : Row) → seen_log_of other rows flags n (map (renamed f) (seen_rewritten same flags r p ss))
        ≡ seen_log_of same rows flags n (seen_rewritten same flags r p ss))
        → (p : Place) → ◌≡◌ {A = List Production} (elim p [
          | Nowhere ↦ []
          | At place row ↦ record { number = row.number.number; place = place }
              ∷ seen_log_of other rows flags n (seen_rewritten other flags row place (map (renamed f) ss))
        ]) (elim p [
          | Nowhere ↦ []
          | At place row ↦ record { number = row.number.number; place = place }
              ∷ seen_log_of same rows flags n (seen_rewritten same flags row place ss)
        ])
    go rec Nowhere = refl
    go rec (At place row) = ap (λ l. record { number = row.number.number; place = place } ∷ l) (ap
        (seen_log_of other rows flags n) (sym (rewritten-renamed same other f free flags row place ss)) ∙ rec place row)

pub log-renamed : {M N : Type 0} (same : M → M → Bool) (other : N → N → Bool) (f : M → N)
    → ((a b : M) → other (f a) (f b) ≡ same a b) → (rows : List Row) (flags : Flags) (ss : List (Sight M))
    → seen_log other rows flags (map (renamed f) ss) ≡ seen_log same rows flags ss
unfolding seen_log
log-renamed same other f free rows flags ss = grind (arith, log-renamed-of, weight-renamed)
