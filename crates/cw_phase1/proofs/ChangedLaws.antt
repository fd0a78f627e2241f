-- Whether a section is changed is asked of the rows one by one, and the last row is the last section.
use Rattle.cw_phase1.proofs.Terms.{◌≡◌, ℕ, zero, suc, ◌+◌, ◌<◌, ◌∙◌, ◌||◌, true, false, List, [], ◌∷◌, ap, refl, arith}
use Rattle.cw_phase1.proofs.Terms.{map, drop, length, get_or, set, at_drop_more, get_or-map, length-map, has_changed}
use Rattle.cw_phase1.proofs.Terms.{with_last_changed, with_last_marked, Section}
use Rattle.cw_phase1.specs.{model.Packed.unpacked, declared.packed.PackedSection.PackedSection}

has-more : (rows : List PackedSection) (k : ℕ) (d : PackedSection) → k < length rows → has_changed (drop k
    (map unpacked rows))
    ≡ ((get_or rows k d).changed || has_changed (drop (k + 1) (map unpacked rows)))
has-more rows k d h = at_drop_more has_changed _ k (unpacked d) (omega (arith, length-map rows unpacked)) ∙ ap (λ (s :
    Section). s.changed || has_changed (drop (k + 1) (map unpacked rows))) (get_or-map unpacked rows k d (unpacked d) h)

-- a changed row among those that are left
pub changed-found : (rows : List PackedSection) (sections : List Section) (k : ℕ) (d : PackedSection)
    → map unpacked rows ≡ sections
    → has_changed (drop k sections) ≡ has_changed sections → k < length rows → (get_or rows k d).changed ≡ true
    → true ≡ has_changed sections
changed-found rows sections k d v i h e = grind (arith, has-more rows k d h)

-- one that isn't
pub unchanged-passed : (rows : List PackedSection) (sections : List Section) (k : ℕ) (d : PackedSection)
    → map unpacked rows ≡ sections
    → has_changed (drop k sections) ≡ has_changed sections → k < length rows → (get_or rows k d).changed ≡ false
    → has_changed (drop (k + 1) sections) ≡ has_changed sections
unchanged-passed rows sections k d v i h e = grind (arith, has-more rows k d h)

-- the last row is the last section
pub last-marked : (rows : List PackedSection) (k : ℕ) (last : PackedSection) → k + 1 ≡ length rows → last
    ≡ get_or rows k last
    → map unpacked (set rows k (record last { changed = true })) ≡ with_last_changed (map unpacked rows)
last-marked [] k last n e = absurd (omega arith)
last-marked (r ∷ []) zero last n e = ap (λ (x : PackedSection). unpacked (record x { changed = true }) ∷ []) e
last-marked (r ∷ []) (suc k) last n e = absurd (omega arith)
last-marked (r ∷ next ∷ rows) zero last n e = absurd (omega arith)
last-marked (r ∷ next ∷ rows) (suc k) last n e = grind (arith, last-marked (next ∷ rows) k last (omega arith) e)

pub marked-changed : (sections : List Section) → true ≡ has_changed sections
    → with_last_changed sections ≡ with_last_marked sections
marked-changed sections e = grind arith

pub none-changed : (rows : List PackedSection) → (0 < length rows → ⊥) → true ≡ has_changed (map unpacked rows) → ⊥
none-changed [] n e = cc
none-changed (r ∷ rows) n e = n (omega arith)

length-changed : (sections : List Section) → length (with_last_changed sections) ≡ length sections
length-changed (s ∷ next ∷ sections) = ap suc (length-changed (next ∷ sections))
length-changed _ = refl

-- as many sections as before
pub length-marked : (sections : List Section) → length (with_last_marked sections) ≡ length sections
length-marked sections = grind (arith, length-changed)
