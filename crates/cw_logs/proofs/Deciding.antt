-- Each file is a log, or one of its lines is the first that no log has: what a line may be is tried in turn.
use Rattle.cw_logs.proofs.Terms.{◌≡◌, ◌≢◌, ◌⊎◌, inl, inr, ℕ, zero, suc, ◌+◌, ◌≤◌, Bool, true, List, [], ◌∷◌, ◌++◌}
use Rattle.cw_logs.proofs.Terms.{length, take, drop, get_or, refl, sym, ◌∙◌, ap, subst, arith, length-drop}
use Rattle.cw_logs.proofs.Terms.{drop-append_seam, take-append_seam, eqb_tells, nat_tests, length-append}
use Rattle.cw_logs.proofs.Terms.{take-append-drop, flat_map, common_steps, Cat, all_cats, number_of, LeafKind, Line}
use Rattle.cw_logs.proofs.Terms.{Production, Spot, Outside, Inside, IsLeafLine, AreIdentifiers, Reads, none, more}
use Rattle.cw_logs.proofs.Terms.{Step, Stuck, opens, leaf, item, closes, blank_and, cat_text, end_text, fits_kind}
use Rattle.cw_logs.proofs.Terms.{greatest, head_text, is_identifier, item_text, letter, line_text, IsFineLine}
use Rattle.cw_table.specs.declared.productions.TheConstants.{ROW_COUNT}
use Rattle.cw_logs.specs.Judgement.{Judgement, log, no_log}
use Rattle.cw_logs.proofs.{CatNames.at-number, CatNames.within, Cutting.all-cons, Judging.AtHand, Judging.at-hand}
use Rattle.cw_logs.proofs.{Judging.all-taken, Names.Later, Telling.names-same}
use Rattle.cw_logs.proofs.BlockSteps.{opened, leaf-step, inner, on, out}
use Rattle.cw_logs.proofs.StepLaws.{inside-is-fault, joined-reads, read-is-log, stuck-is-fault, take-next}
use Rattle.cw_base.specs.declared.category.Cat.TheVariants as cats
use Rattle.cw_leaves.specs.declared.kinds.LeafKind.TheVariants as kinds

abbrev Known : Type 0 → Type 0
Known P = P ⊎ (P → ⊥)

-- ## Numbers and texts

same_number : (m n : ℕ) → Known (m ≡ n)
same_number m n = elim (eqb_tells m n) [ inl e ↦ inl e.1 | inr e ↦ inr e.1 ]

same_cons : (x y : ℕ) (xs ys : List ℕ) → Known (x ≡ y) → Known (xs ≡ ys) → Known (◌≡◌ {A = List ℕ} (x ∷ xs) (y ∷ ys))
same_cons x y xs ys h same = grind arith

same_text : (xs ys : List ℕ) → Known (xs ≡ ys)
same_text [] [] = inl refl
same_text (x ∷ xs) (y ∷ ys) = same_cons x y xs ys (same_number x y) (same_text xs ys)
same_text _ _ = inr (λ e. cc)

is_true : (b : Bool) → Known (b ≡ true)
is_true b = grind arith

both : (P Q : Type 0) → Known P → Known Q → Known (P × Q)
both P Q h k = grind arith

-- a number up to a greatest one that passes
record Upto (most : ℕ) (P : ℕ → Type 0) : Type 0 where
  at : ℕ
  below : at ≤ most
  is : P at

later_upto : (P : ℕ → Type 0) (most : ℕ) → Known (Upto most P) → Known (P (suc most)) → Known (Upto (suc most) P)
later_upto P most h k = grind (arith, same_number)

upto : (P : ℕ → Type 0) → ((n : ℕ) → Known (P n)) → (most : ℕ) → Known (Upto most P)
upto P each zero = by (each 0)
  where
    by : Known (P 0) → Known (Upto 0 P)
    by (inl p) = inl (record { at = 0; below = omega arith; is = p })
    by (inr not) = inr (λ u. let e : u.at ≡ 0 = omega (arith, u.below) in not (subst P e u.is))
upto P each (suc most) = later_upto P most (upto P each most) (each (suc most))

-- ## Names

some_name : (n : ℕ) (bytes : List ℕ) → is_identifier (take n bytes) ≡ true → Later (drop n bytes) → Later (32 ∷ bytes)
some_name n bytes fine l = record {
  names = take n bytes ∷ l.names;
  fine = all-cons (λ name. is_identifier name ≡ true) (take n bytes) l.names fine l.fine;
  is = ap (λ xs. 32 ∷ xs) (sym (take-append-drop n bytes) ∙ ap (λ xs. take n bytes ++ xs) l.is);
}

no_name : (bytes : List ℕ) → (Upto (length bytes) (λ n. (is_identifier (take n bytes) ≡ true) × Later (drop n bytes))
    → ⊥) → Later (32 ∷ bytes) → ⊥
no_name bytes lack l = go l.names l.fine l.is
  where
    go : (names : List (List ℕ)) → AreIdentifiers names → 32 ∷ bytes ≡ flat_map blank_and names → ⊥
    go [] fine is = cc
    go (m ∷ ms) fine is =
        let e : bytes ≡ m ++ flat_map blank_and ms = cc in
        lack (record {
          at = length m;
          below = omega (arith, ap length e, length-append m (flat_map blank_and ms));
          is = (
            ap is_identifier (ap (take _) e ∙ take-append_seam m (flat_map blank_and ms)) ∙ fine 0 m (omega arith),
            record {
              names = ms;
              fine = λ i d lt. fine (suc i) d (omega (arith, lt));
              is = ap (drop (length m)) e ∙ drop-append_seam m (flat_map blank_and ms);
            },
          );
        })

other_byte : (byte : ℕ) (bytes : List ℕ) → (byte ≡ 32 → ⊥) → Later (byte ∷ bytes) → ⊥
other_byte byte bytes not l = grind (arith, nat_tests, common_steps)

abbrev NameEnds : List ℕ → ℕ → Type 0
NameEnds bytes n = (is_identifier (take n bytes) ≡ true) × Later (drop n bytes)

by_names : (bytes : List ℕ) → Known (Upto (length bytes) (NameEnds bytes)) → Known (Later (32 ∷ bytes))
by_names bytes h = grind (arith, some_name, no_name)

by_byte : (byte : ℕ) (bytes : List ℕ) → Known (byte ≡ 32) → Known (Later (32 ∷ bytes)) → Known (Later (byte ∷ bytes))
by_byte byte bytes h k = grind (arith, other_byte)

names_in : (fuel : ℕ) (text : List ℕ) → length text ≤ fuel → Known (Later text)
names_in fuel [] enough = inl (record { names = []; fine = λ i d lt. absurd (omega (arith, lt)); is = refl })
names_in zero (byte ∷ bytes) enough = absurd (omega (arith, enough))
names_in (suc fuel) (byte ∷ bytes) enough = by_byte byte _ (same_number byte 32) (by_names bytes (upto (NameEnds bytes)
    (λ n. both (is_identifier (take n bytes) ≡ true) (Later (drop n bytes)) (is_true (is_identifier (take n bytes)))
    (names_in fuel (drop n bytes) (omega (arith, length-drop n bytes, enough)))) (length bytes)))

-- ## Leaf lines

-- what stands behind these bytes
record Behind (front text : List ℕ) : Type 0 where
  rest : List ℕ
  is : text ≡ front ++ rest

behind_in : (front text : List ℕ) → Known (Behind front text)
behind_in [] text = inl (record { rest = text; is = refl })
behind_in (x ∷ xs) [] = inr (λ b. let e : [] ≡ x ∷ xs ++ b.rest = b.is in absurd cc)
behind_in (x ∷ xs) (y ∷ ys) = grind (arith, behind_in xs ys, same_number y x)

-- the letter, the category and the names of a leaf line
abbrev front_of : LeafKind → Cat → List ℕ
front_of k c = letter k ∷ blank_and (cat_text c)

abbrev line_by : LeafKind → Cat → List (List ℕ) → Line
line_by k c names = record { kind = k; cat = c; names = names }

record LeafBy (k : LeafKind) (c : Cat) (line : List ℕ) : Type 0 where
  names : List (List ℕ)
  fine : IsFineLine (line_by k c names)
  is : line ≡ line_text (line_by k c names)

same-rest : (front xs ys : List ℕ) → front ++ xs ≡ front ++ ys → xs ≡ ys
same-rest [] xs ys e = e
same-rest (f ∷ front) xs ys e = same-rest front xs ys (cc)

module _ (k : LeafKind) (c : Cat) (line : List ℕ) where
  rest-names : (b : Behind (front_of k c) line) (l : LeafBy k c line) → b.rest ≡ flat_map blank_and l.names
  rest-names b l = same-rest (front_of k c) b.rest (flat_map blank_and l.names) (sym b.is ∙ l.is)

  with_names : (b : Behind (front_of k c) line) (l : Later b.rest)
      → Known ((fits_kind k c (length l.names) ≡ true) × (c ≢ cats.End)) → Known (LeafBy k c line)
  with_names b l (inl h) = grind arith
  with_names b l (inr not) = inr (λ o. let same = names-same o.names l.names o.fine.names l.fine (sym (rest-names b o)
      ∙ l.is) in not (subst (λ ns. fits_kind k c (length ns) ≡ true) same o.fine.kind, o.fine.real))

  leaf_behind : (b : Behind (front_of k c) line) → Known (Later b.rest) → Known (LeafBy k c line)
  leaf_behind b (inl l) =
      with_names b l (both _ (c ≢ cats.End) (is_true (fits_kind k c (length l.names))) (grind arith))
  leaf_behind b (inr not) = inr (λ o. not (record { names = o.names; fine = o.fine.names; is = rest-names b o }))

  leaf_by : Known (Behind (front_of k c) line) → Known (LeafBy k c line)
  leaf_by (inl b) = leaf_behind b (names_in (length b.rest) b.rest (omega arith))
  leaf_by (inr not) = inr (λ o. not (record { rest = flat_map blank_and o.names; is = o.is }))

-- of some category
abbrev OfSomeCat : LeafKind → List ℕ → Type 0
OfSomeCat k line = Upto 55 (λ n. LeafBy k (get_or all_cats n cats.End) line)

of_some_cat : (k : LeafKind) (line : List ℕ) → Known (OfSomeCat k line)
of_some_cat k line = grind (arith, upto, leaf_by, behind_in)

line-said : (k : LeafKind) (line : List ℕ) → OfSomeCat k line → IsLeafLine line
line-said k line u = grind arith

said-line : (k : LeafKind) (c : Cat) (line : List ℕ) → LeafBy k c line → OfSomeCat k line
said-line k c line l = record { at = number_of c; below = omega (arith, within c); is = grind (arith, at-number) }

leaf_of : (line : List ℕ) → Known (OfSomeCat kinds.B line) → Known (OfSomeCat kinds.C line)
    → Known (OfSomeCat kinds.I line) → Known (OfSomeCat kinds.S line) → Known (IsLeafLine line)
leaf_of line (inl u) c i s = inl (line-said kinds.B line u)
leaf_of line (inr b) (inl u) i s = inl (line-said kinds.C line u)
leaf_of line (inr b) (inr c) (inl u) s = inl (line-said kinds.I line u)
leaf_of line (inr b) (inr c) (inr i) (inl u) = inl (line-said kinds.S line u)
leaf_of line (inr b) (inr c) (inr i) (inr s) = inr (λ l. go l.said.kind l.said.cat l.said.names l.fine l.is)
  where
    go : (k : LeafKind) (cat : Cat) (names : List (List ℕ)) → IsFineLine (line_by k cat names)
        → line ≡ line_text (line_by k cat names) → ⊥
    go kinds.B cat names fine is = b (said-line kinds.B cat line (record { names = names; fine = fine; is = is }))
    go kinds.C cat names fine is = c (said-line kinds.C cat line (record { names = names; fine = fine; is = is }))
    go kinds.I cat names fine is = i (said-line kinds.I cat line (record { names = names; fine = fine; is = is }))
    go kinds.S cat names fine is = s (said-line kinds.S cat line (record { names = names; fine = fine; is = is }))

-- ## Heads and productions

abbrev HeadOf : List ℕ → Type 0
HeadOf line = Upto greatest (λ n. line ≡ head_text n)

abbrev production : ℕ → ℕ → Production
production number place = record { number = number; place = place }

-- the row is a number and 1
abbrev ItemOf : List ℕ → Type 0
ItemOf line = Upto ROW_COUNT (λ n. (n ≢ 0) × Upto greatest (λ place. line ≡ item_text (production n place)))

not_zero : (n : ℕ) → Known (n ≢ 0)
not_zero n = grind arith

-- ## Steps

record Next (spot : Spot) (line : List ℕ) : Type 0 where
  next : Spot
  step : Step spot line next

abbrev Goes : Spot → List ℕ → Type 0
Goes spot line = Next spot line ⊎ Stuck spot line

step_outside : (line : List ℕ) → Known (HeadOf line) → Goes Outside line
step_outside line (inl u) = inl (record { next = Inside u.at; step = opens line u.at u.below u.is })
step_outside line (inr not) = inr
    (λ next step. let o = opened Outside next line step refl in not (record { at = o.count; below = o.few; is = o.is }))

step_leaf : (k : ℕ) (line : List ℕ) → Known (IsLeafLine line) → Goes (Inside (suc k)) line
step_leaf k line (inl l) = inl (record { next = Inside k; step = leaf line k l.said l.fine l.is })
step_leaf k line (inr not) = inr (λ next step. not (leaf-step (Inside (suc k)) next line k step refl).is)

step_item : (line : List ℕ) → Known (ItemOf line) → Known (line ≡ end_text) → Goes (Inside 0) line
step_item line (inl u) ended =
    inl (record { next = Inside 0; step = item line (production u.at u.is.1.at) (grind arith) u.is.1.is })
step_item line (inr not) (inl e) = inl (record { next = Outside; step = closes line e })
step_item line (inr not) (inr unended) = grind (arith, inner, on, out)

step_on : (spot : Spot) (line : List ℕ) → Goes spot line
step_on Outside line = step_outside line (upto (λ n. line ≡ head_text n) (λ n. same_text line (head_text n)) greatest)
step_on (Inside zero) line = step_item line (upto (λ n. (n ≢ 0) × Upto _ (λ place. line ≡ item_text _))
    (λ n. both (n ≢ 0) _ (not_zero n) (upto (λ place. line ≡ item_text (production n _))
    (λ place. same_text line (item_text _)) greatest)) _) (same_text line end_text)
step_on (Inside (suc k)) line = step_leaf
    k line (leaf_of line (of_some_cat kinds.B line) (of_some_cat _ line) (of_some_cat _ line) (of_some_cat _ line))

-- ## The whole file

ended : (lines : List (List ℕ)) (good : ℕ) (spot : Spot) → take good lines ≡ lines → good ≡ length lines
    → Reads Outside (take good lines) spot → Judgement lines
ended lines good Outside all last r = log (read-is-log lines (subst (λ ls. Reads Outside ls Outside) all r))
ended lines good (Inside k) all last r = no_log (good + 1) (grind (arith, inside-is-fault))

-- this line, and then the rest from the next spot on
on_from : (lines : List (List ℕ)) (good : ℕ) (spot : Spot) (line : List ℕ) (rest : List (List ℕ))
    → Reads Outside (take good lines) spot → AtHand lines good line rest
    → ((next : Spot) → Reads Outside (take (suc good) lines) next → Judgement lines) → Goes spot line → Judgement lines
on_from lines good spot line rest r h later (inl n) = later _ (subst (λ ls. Reads Outside ls n.next)
    (sym (take-next lines good h.within ∙ ap (λ l. take good lines ++ l ∷ []) h.is)) (joined-reads
    Outside spot n.next (take good lines) (line ∷ []) r (more spot n.next n.next line [] n.step (none n.next))))
on_from lines good spot line rest r h later (inr stuck) = no_log (good + 1) (grind (arith, stuck-is-fault))

judged_from : (lines : List (List ℕ)) (good : ℕ) (spot : Spot) (rest : List (List ℕ)) → good ≤ length lines
    → drop good lines ≡ rest → Reads Outside (take good lines) spot → Judgement lines
judged_from lines good spot [] within left r = let h = all-taken _ good within left in ended lines good spot h.0 h.1 r
judged_from lines good spot (line ∷ rest) within left r =
    let h : AtHand lines good line rest = at-hand lines good line rest left in
    on_from lines good spot line rest r h
    (λ next read. judged_from lines (suc good) next rest (omega (arith, h.within)) h.later read) (step_on spot line)

pub judgement : (lines : List (List ℕ)) → Judgement lines
judgement lines = judged_from lines 0 Outside lines (omega arith) refl (none Outside)
