-- A text that is printed byte by byte is divided between its units.
use Rattle.cw_print.proofs.Terms.{◌≡◌, ℕ, ◌+◌, ◌-◌, ◌==◌, nat_le, Bool, true, false, List, [], ◌∷◌, ◌++◌, refl, ap, ◌∙◌}
use Rattle.cw_print.proofs.Terms.{arith, if◌then◌else◌, nat_tests, append-nil, append_assoc, Portion, portion_behind}
use Rattle.cw_print.proofs.Terms.{rest_bytes, with_byte, escaped_byte, divided, divided_units, division, units}

is-full : (come : ℕ) → ((20 - come) == 0) ≡ nat_le 20 come
is-full come = grind (arith, nat_tests)

one-less : (come : ℕ) → (20 - come) - 1 ≡ 20 - (come + 1)
one-less come = omega arith

two-less : (come : ℕ) → ((20 - come) - 1) - 1 ≡ 20 - (come + 2)
two-less come = omega arith

-- What a unit prints by its first byte and its others, with what comes behind it.
module _ (come : ℕ) (first others : List ℕ) (size : ℕ) (rest : List (List ℕ)) (tail : Portion → List ℕ)
    (behind : (c : ℕ) → tail (portion_behind c) ≡ others ++ divided_units (c + size) rest) where
  abbrev before : Bool → List ℕ
  before full = if full then division ++ first else first

  abbrev for_next : Bool → Portion
  for_next full = if full then portion_behind 0 else portion_behind come

  abbrev text_behind : Bool → List ℕ
  text_behind full = before full ++ tail (for_next full)

  abbrev unit_behind : Bool → List ℕ
  unit_behind full = if full then division ++ ((first ++ others) ++ divided_units (0 + size) rest)
      else (first ++ others) ++ divided_units (come + size) rest

  joined : (begun : List ℕ) (c : ℕ) → (begun ++ first) ++ tail (portion_behind c)
      ≡ begun ++ ((first ++ others) ++ divided_units (c + size) rest)
  joined begun c = grind (arith, append_assoc)

  unit-shown : (full : Bool) → text_behind full ≡ unit_behind full
  unit-shown true = joined division 0
  unit-shown false = joined [] come

  pub shown-by : (full full' : Bool) → full ≡ full' → text_behind full ≡ unit_behind full'
  shown-by full full' is = ap text_behind is ∙ unit-shown full'

-- a byte that is a unit
module _ (byte : ℕ) (more : List ℕ) (rest : List (List ℕ)) (come : ℕ)
    (behind : (c : ℕ) → rest_bytes (record { room = 20 - c; takes_next = byte == 92 }) more
    ≡ divided_units c rest) where
  one-shown : rest_bytes (portion_behind come) (byte ∷ more) ≡ divided_units come ((byte ∷ []) ∷ rest)
  one-shown = grind (arith, shown-by, nat_le, is-full, one-less)

-- a backslash and the byte behind it
module _ (byte next : ℕ) (bytes : List ℕ) (come : ℕ) (escapes : (byte == 92) ≡ true)
    (behind : (c : ℕ) → rest_bytes (portion_behind c) bytes ≡ divided_units c (units bytes)) where
  abbrev later : List ℕ
  later = escaped_byte next ++ []

  behind-pair : (c : ℕ) → rest_bytes (with_byte (portion_behind c) byte) (next ∷ bytes)
      ≡ later ++ divided_units (c + 2) (units bytes)
  behind-pair c = grind (arith, two-less, append-nil)

  pair-shown : rest_bytes (portion_behind come) (byte ∷ next ∷ bytes)
      ≡ divided_units come ((byte ∷ next ∷ []) ∷ units bytes)
  pair-shown = shown-by come (escaped_byte byte) later 2 (units bytes) (λ portion. rest_bytes (with_byte portion byte)
      (next ∷ bytes)) behind-pair ((20 - come) == 0) (nat_le 20 come) (is-full come)

by-first : (byte next : ℕ) (bytes : List ℕ) (come : ℕ) → ((c : ℕ) → rest_bytes (portion_behind c) bytes ≡ divided_units
    c (units bytes)) → ((c : ℕ) → rest_bytes (portion_behind c) (next ∷ bytes) ≡ divided_units c (units (next ∷ bytes)))
    → (escapes : Bool) → (byte == 92) ≡ escapes → rest_bytes (portion_behind come) (byte ∷ next ∷ bytes)
    ≡ divided_units come (if escapes then (byte ∷ next ∷ []) ∷ units bytes else (byte ∷ []) ∷ units (next ∷ bytes))
by-first byte next bytes come behind others true is = pair-shown byte next bytes come is behind
by-first byte next bytes come behind others false is = one-shown byte (next ∷ bytes) (units (next ∷ bytes)) come
    (λ c. ap (λ (b : Bool). rest_bytes (record { room = 20 - c; takes_next = b }) (next ∷ bytes)) is ∙ others c)

shown : (text : List ℕ) (come : ℕ) → rest_bytes (portion_behind come) text ≡ divided_units come (units text)
shown [] come = refl
shown (byte ∷ []) come = one-shown byte [] [] come (λ c. refl)
shown (byte ∷ next ∷ bytes) come = grind (arith, shown bytes, shown (next ∷ bytes), by-first)

-- A text that is printed from its beginning is divided as the definition says.
pub rest-divided : (text : List ℕ) → rest_bytes (portion_behind 0) text ≡ divided text
rest-divided text = shown text 0
