-- The first output that overwrites something, where the outputs are looked at one after another.
use Rattle.std.proofs.Common.{◌≡◌, ℕ, zero, suc, ◌+◌, ◌<◌, ◌||◌, Bool, true, false, List, [], ◌∷◌, Option, Some, refl}
use Rattle.std.proofs.Common.{ap, sym, ◌∙◌, subst}
use Rattle.std.proofs.Common.{length, take, drop, slice_index_or, arith, cond}
use Rattle.std.proofs.lemmas.Grind.{common_steps}
use Rattle.cw_input.specs.Overwriting.{first_overwriting, is_among}

-- what is taken when so many outputs were looked at
abbrev pub taken_after : ℕ → List (List ℕ) → List (List ℕ) → List (List ℕ)
taken_after zero taken names = taken
taken_after (suc i) taken [] = taken
taken_after (suc i) taken (name ∷ names) = taken_after i (name ∷ taken) names

-- a name is taken then if it was at first, or if one of these outputs has it
pub taken-among : (i : ℕ) (taken names : List (List ℕ)) (name : List ℕ)
    → is_among (taken_after i taken names) name ≡ (is_among taken name || is_among (take i names) name)
taken-among zero taken names name = grind (arith, common_steps)
taken-among (suc i) taken [] name = grind (arith, common_steps)
taken-among (suc i) taken (other ∷ names) name = grind (arith, common_steps, taken-among i (other ∷ taken) names name)

-- the next output decides, or is taken then too
pub next-decides : (i : ℕ) (taken names : List (List ℕ)) → i < length names → first_overwriting (taken_after i taken
    names) (drop i names) ≡ cond (is_among (taken_after i taken names) (slice_index_or names i []))
    (Some (slice_index_or names i [])) (first_overwriting (taken_after (suc i) taken names) (drop (suc i) names))
next-decides i taken [] within = absurd (omega (arith, within))
next-decides zero taken (other ∷ names) within = refl
next-decides (suc i) taken (other ∷ names) within = next-decides i (other ∷ taken) names (omega (arith, within))

pub next-overwrites : (i : ℕ) (files names : List (List ℕ)) (total : Option (List ℕ)) → i < length names
    → (is_among files (slice_index_or names i []) || is_among (take i names) (slice_index_or names i [])) ≡ true
    → first_overwriting (taken_after i files names) (drop i names) ≡ total → Some (slice_index_or names i []) ≡ total
next-overwrites i files names total within taken left =
    let name : List ℕ = slice_index_or names i [] in
    let behind : Option (List ℕ) = first_overwriting (taken_after (suc i) files names) (drop (suc i) names) in
    let is : is_among (taken_after i files names) name ≡ true = taken-among i files names name ∙ taken in
    let first : cond (is_among (taken_after i files names) name) (Some name) behind ≡ Some name =
    ap (λ (test : Bool). cond test (Some name) behind) is in
    sym first ∙ (sym (next-decides i files names within) ∙ left)

pub next-is_taken : (i : ℕ) (files names : List (List ℕ)) (total : Option (List ℕ)) → i < length names
    → (is_among files (slice_index_or names i []) || is_among (take i names) (slice_index_or names i [])) ≡ false
    → first_overwriting (taken_after i files names) (drop i names) ≡ total
    → first_overwriting (taken_after (i + 1) files names) (drop (i + 1) names) ≡ total
next-is_taken i files names total within free left =
    let name : List ℕ = slice_index_or names i [] in
    let behind : Option (List ℕ) = first_overwriting (taken_after (suc i) files names) (drop (suc i) names) in
    let is : is_among (taken_after i files names) name ≡ false = taken-among i files names name ∙ free in
    let later : cond (is_among (taken_after i files names) name) (Some name) behind ≡ behind =
    ap (λ (test : Bool). cond test (Some name) behind) is in
    let next : suc i ≡ i + 1 = omega arith in
    subst (λ (n : ℕ). first_overwriting (taken_after n files names) (drop n names) ≡ total) next
    (sym later ∙ (sym (next-decides i files names within) ∙ left))
