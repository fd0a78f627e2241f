-- Bytes of a class in a row, and texts at the beginning of others.
use Rattle.std.proofs.Common.{◌≡◌, ℕ, zero, suc, ◌+◌, ◌-◌, ◌<◌, ◌≤◌, false, List, [], ◌∷◌, length, slice_index, drop}
use Rattle.std.proofs.Common.{refl, arith, add-one, drop-cons}
use Rattle.std.proofs.{lemmas.List.drop-drop, lemmas.List.drop_all, lemmas.Bool.Decides.nat_tests}
use Rattle.cw_rules.specs.{declared.classes.Class.Class, Bytes.run, Bytes.begins_with}

-- a text from a place on, and the byte there
pub drop-here : (text : List ℕ) (place : ℕ) → place < length text → drop place text
    ≡ slice_index text place ∷ drop (place + 1) text
drop-here text place h = rw (add-one, drop-cons text place 0) refl

run-drop : (class : Class) (bytes : List ℕ) (n : ℕ) → n ≤ run class bytes → run class (drop n bytes)
    ≡ run class bytes - n
run-drop class bytes zero h = omega arith
run-drop class [] (suc n) h = absurd (omega arith)
run-drop class (b ∷ bs) (suc n) h = grind (arith, nat_tests, run-drop class bs n)

-- a place inside the run
pub run-inside : (class : Class) (text : List ℕ) (from size place : ℕ) → size ≡ run class (drop from text)
    → from ≤ place → place ≤ from + size → run class (drop place text) ≡ (from + size) - place
run-inside class text from size place e low high =
    grind (arith, drop-drop (place - from) from text, run-drop class (drop from text) (place - from) (omega arith))

-- a text that is too short to begin with another
pub begins_with-short : (wanted bytes : List ℕ) (k : ℕ) → k < length wanted → length bytes ≤ k
    → begins_with (drop k wanted) (drop k bytes) ≡ false
begins_with-short wanted bytes k h g = (λ i. begins_with (drop-here wanted k h i) (drop_all k bytes g i))
