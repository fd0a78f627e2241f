-- A section name is the same where the text ends behind it.
use Rattle.std.proofs.Common.{◌≡◌, ℕ, zero, suc, ◌+◌, ◌-◌, ◌≤◌, Bool, true, false, ◌&&◌, ◌||◌, not, ◌==◌, List, [], ◌∷◌}
use Rattle.std.proofs.Common.{codes, length, take, drop, refl, sym, ap, ◌∙◌, arith}
use Rattle.std.specs.Prelude.{if◌then◌else◌}
use Rattle.std.proofs.{Math.Seq.take-nil, lemmas.Bool.Decides.nat_tests}
use Rattle.cw_rules.specs.{declared.bodies.Inside.Inside, Codes.begins_section}
use Rattle.cw_rules.specs.Bodies.{stops, stepped, goes_on, ended, extent, closing_bytes}
use Rattle.cw_rules.specs.Bytes.{greater, at_sign, begins, begins_with}
use Rattle.cw_rules.proofs.{BodiesAhead.ended-here, BodiesAhead.ended-on, Inside.ended-le}
use Rattle.cw_rules.specs.declared.bodies.Body.TheVariants as bodies

size-on : (i : Inside) (b : ℕ) (bs : List ℕ) → i.body ≡ bodies.SectionName → goes_on i (b ∷ bs) ≡ true
    → (extent i (b ∷ bs)).size ≡ suc (extent (stepped i b bs) bs).size
size-on i b bs e h =
    let j = stepped i b bs in
    let k = (ended j bs).place in
    let low : i.place + 1 ≤ k = ended-le j bs in
    let place : (ended i (b ∷ bs)).place ≡ k = ap (λ (i : Inside). i.place) (ended-on i b bs h) in
    let inner : (ended i (b ∷ bs)).place - i.place ≡ suc (k - (i.place + 1)) = omega (arith, place, low) in
    (λ t. if begins_with (closing_bytes (e t)) (drop (inner t) (b ∷ bs)) then inner t + length (closing_bytes (e t))
    else inner t) ∙ later (begins_with (codes "@>") (drop (k - (i.place + 1)) bs)) (k - (i.place + 1))
    ∙ sym (λ t. suc (if begins_with (closing_bytes (e t)) (drop (k - (i.place + 1)) bs) then
    (k - (i.place + 1)) + length (closing_bytes (e t)) else k - (i.place + 1)))
  where
    later : (t : Bool) (n : ℕ) → (if t then suc n + 2 else suc n) ≡ suc (if t then n + 2 else n)
    later t n = grind (arith, nat_tests)

size-here : (i : Inside) (b : ℕ) (bs : List ℕ) → i.body ≡ bodies.SectionName → goes_on i (b ∷ bs) ≡ false
    → (extent i (b ∷ bs)).size ≡ (if b == 64 && begins 62 bs then 2 else 0)
size-here i b bs e h =
    let inner : (ended i (b ∷ bs)).place - i.place ≡ 0 =
    omega (arith, ap (λ (i : Inside). i.place) (ended-here i b bs h)) in
    (λ t. if begins_with (closing_bytes (e t)) (drop (inner t) (b ∷ bs)) then inner t + length
    (closing_bytes (e t)) else inner t) ∙ ap (λ t. if t then 2 else 0) (ap (λ t. b == 64 && t) (one bs))
  where
    one : (bs : List ℕ) → begins_with (codes ">") bs ≡ begins 62 bs
    one bs = grind (arith, nat_tests)

-- A name goes on where less of it is seen.
goes-less : (i : Inside) (b n : ℕ) (bs : List ℕ) → i.body ≡ bodies.SectionName → goes_on i (b ∷ bs) ≡ true
    → goes_on i (b ∷ take n bs) ≡ true
goes-less i b n bs e h = (λ t. i.along || not (stops (e t) i.before b (take n bs))) ∙ less i.along (b == at_sign)
    (begins greater bs) (begins_section bs) (begins greater (take n bs)) (begins_section (take n bs))
    (greater-less n bs) (section-less n bs) ((λ t. i.along || not (stops (sym e t) i.before b bs)) ∙ h)
  where
    greater-less : (n : ℕ) (bs : List ℕ) → begins greater (take n bs) ≡ true → begins greater bs ≡ true
    greater-less zero bs h = absurd cc
    greater-less (suc n) [] h = h
    greater-less (suc n) (c ∷ cs) h = h

    section-less : (n : ℕ) (bs : List ℕ) → begins_section (take n bs) ≡ true → begins_section bs ≡ true
    section-less zero bs h = absurd cc
    section-less (suc n) [] h = h
    section-less (suc n) (c ∷ cs) h = h

    less : (along is g s h t : Bool) → (h ≡ true → g ≡ true) → (t ≡ true → s ≡ true) → (along || not (is && (g || s)))
        ≡ true → (along || not (is && (h || t))) ≡ true
    less along is g s h t f k e = grind (arith, nat_tests)

step-same : (i : Inside) (b n : ℕ) (bs : List ℕ) → i.body ≡ bodies.SectionName → stepped i b (take n bs)
    ≡ stepped i b bs
step-same i b n bs e = grind (arith, nat_tests)

pub name-take : (i : Inside) (bs : List ℕ) → i.body ≡ bodies.SectionName → (extent i (take (extent i bs).size bs)).size
    ≡ (extent i bs).size
name-take i [] e = ap (λ l. (extent i l).size) (take-nil (extent i []).size)
name-take i (b ∷ bs) e = by (goes_on i (b ∷ bs)) refl (name-take (stepped i b bs) bs e)
  where
    by : (t : Bool) → goes_on i (b ∷ bs) ≡ t
        → (extent (stepped i b bs) (take (extent (stepped i b bs) bs).size bs)).size ≡ (extent (stepped i b bs) bs).size
        → (extent i (take (extent i (b ∷ bs)).size (b ∷ bs))).size ≡ (extent i (b ∷ bs)).size
    by true h rec =
        let s = (extent (stepped i b bs) bs).size in
        let size = size-on i b bs e h in
        ap (λ n. (extent i (take n (b ∷ bs))).size) size
        ∙ size-on i b (take s bs) e (goes-less i b s bs e h)
        ∙ ap (λ j. suc (extent j (take s bs)).size) (step-same i b s bs e)
        ∙ ap (λ n. suc n) rec
        ∙ sym size
    by false h rec = closes (b == 64 && begins 62 bs) refl bs refl
      where
        closes : (t : Bool) → (b == 64 && begins 62 bs) ≡ t → (ls : List ℕ) → bs ≡ ls
            → (extent i (take (extent i (b ∷ bs)).size (b ∷ bs))).size ≡ (extent i (b ∷ bs)).size
        closes false k ls l =
            let size : (extent i (b ∷ bs)).size ≡ 0 = size-here i b bs e h ∙ ap (λ t. if t then 2 else 0) k in
            ap (λ n. (extent i (take n (b ∷ bs))).size) size ∙ empty ∙ sym size
          where
            empty : (extent i []).size ≡ 0
            empty =
                let z : i.place - i.place ≡ 0 = omega arith in
                (λ t. if begins_with (closing_bytes (e t)) (drop (z t) []) then z t + length (closing_bytes (e t)) else
                z t)
        closes true k [] l = absurd (let w : false ≡ true = sym (none (b == 64)) ∙ (λ t. b == 64 && begins 62 (sym l t))
            ∙ k in cc)
          where
            none : (a : Bool) → (a && false) ≡ false
            none true = refl
            none false = refl
        closes true k (c ∷ cs) l =
            let size : (extent i (b ∷ bs)).size ≡ 2 = size-here i b bs e h ∙ ap (λ t. if t then 2 else 0) k in
            let stop : goes_on i (b ∷ c ∷ []) ≡ false = stops-still (λ t. goes_on i (b ∷ sym l t)) in
            ap (λ n. (extent i (take n (b ∷ bs))).size) size
            ∙ ap (λ l. (extent i (b ∷ take 1 l)).size) l
            ∙ size-here i b (c ∷ []) e stop
            ∙ ap (λ t. if t then 2 else 0) (ap (λ l. b == 64 && begins 62 l) (sym l) ∙ k)
            ∙ sym size
          where
            stops-still : goes_on i (b ∷ c ∷ cs) ≡ goes_on i (b ∷ bs) → goes_on i (b ∷ c ∷ []) ≡ false
            stops-still same = grind (arith, nat_tests)
