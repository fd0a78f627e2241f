-- The gap moves, and what stands around it stays.
use Rattle.cw_scraps.proofs.Terms.{◌≡◌, ℕ, suc, ◌+◌, ◌-◌, ◌<◌, ◌≤◌, List, ◌∷◌, ◌++◌, length, take, drop, set, refl, sym}
use Rattle.cw_scraps.proofs.Terms.{ap, ◌∙◌, arith, take-set-le, drop-set, drop-set-lt, set-append_left}
use Rattle.cw_scraps.proofs.Terms.{set-append_right, length-take-le, length-take, length-append, length-drop}
use Rattle.cw_scraps.proofs.Terms.{drop-set-add, take-take, take-append-le, drop-drop, LineEntry, around, IsGap}
use Rattle.std.proofs.Math.Seq.{drop-append-add}

take-set-in : (n : ℕ) (xs : List LineEntry) (p : ℕ) (u : LineEntry) → take n (set xs p u) ≡ set (take n xs) p u
take-set-in (suc n) (t ∷ xs) (suc p) u = ap (λ us. t ∷ us) (take-set-in n xs p u)
take-set-in _ _ _ _ = refl

pub put-left : (items : List LineEntry) (l r i : ℕ) (e : LineEntry) → IsGap l r items → i < l
    → around l r (set items i e) ≡ set (around l r items) i e
put-left items l r i e g lt = grind (arith, length-take, take-set-in, drop-set-lt, set-append_left)

pub put-right : (items : List LineEntry) (l r i : ℕ) (e : LineEntry) → IsGap l r items → l ≤ i
    → around l r (set items (i + (r - l)) e) ≡ set (around l r items) i e
put-right items l r i e g ge =
    ap (λ us. us ++ drop r (set items (i + (r - l)) e)) (take-set-le l items (i + (r - l)) e (omega arith))
    ∙ (ap (λ us. take l items ++ us) (ap (λ k. drop r (set items k e)) (omega arith) ∙ drop-set-add r items (i - l) e)
    ∙ sym (set-append_right (take l items) (drop r items) l i e (length-take-le l items (omega arith)) ge))

pub put-left-at : (items : List LineEntry) (l r i at : ℕ) (e : LineEntry) (v : List LineEntry) → IsGap l r items
    → around l r items ≡ v → i < l → at ≡ i → around l r (set items at e) ≡ set v i e
put-left-at items l r i at e v g q lt is = grind (arith, put-left)

pub put-right-at : (items : List LineEntry) (l r i at : ℕ) (e : LineEntry) (v : List LineEntry) → IsGap l r items
    → around l r items ≡ v → l ≤ i → at ≡ i + (r - l) → around l r (set items at e) ≡ set v i e
put-right-at items l r i at e v g q ge is = grind (arith, put-right)

-- what stands before a place that the gap does not lie before, and behind one that it does not lie behind
pub gap-before : (items : List LineEntry) (l r from : ℕ) (v : List LineEntry) → IsGap l r items → around l r items ≡ v
    → from ≤ l → take from items ≡ take from v
gap-before items l r from v g q le = grind (arith, length-take-le, take-take, take-append-le)

pub gap-behind : (items : List LineEntry) (l r to gap : ℕ) (v : List LineEntry) → IsGap l r items → around l r items ≡ v
    → l ≤ to → gap ≡ r + (to - l) → drop gap items ≡ drop to v
gap-behind items l r to gap v g q le is = grind (
  arith,
  length-take-le l items (omega arith),
  drop-drop (to - l) r items,
  drop-append-add (take l items) (drop r items) (to - l),
)

-- an entry in the place of the last of some that stand behind the gap, which takes in those before it
pub replaced-behind : (items : List LineEntry) (at gap count last : ℕ) (e : LineEntry) (v : List LineEntry)
    → IsGap at gap items → around at gap items ≡ v → 0 < count → gap + count ≤ length items → last ≡ gap + (count - 1)
    → around at last (set items last e) ≡ take at v ++ e ∷ drop (at + count) v
replaced-behind items at gap count last e v g q some within is =
    grind (arith, take-set-le, gap-before, drop-set, gap-behind)

-- over scraps that stand there, the gap ends within the vector
pub over-within : (items : List LineEntry) (new : List LineEntry) (l r to gap : ℕ) (v : List LineEntry) → IsGap l r
    items → around l r items ≡ v → to ≤ length v → gap ≡ to + (r - l) → length new ≡ length items → gap ≤ length new
over-within items new l r to gap v g q le is same = grind (arith, length-append, length-take-le, length-drop)
