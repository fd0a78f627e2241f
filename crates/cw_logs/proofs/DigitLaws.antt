-- The number that digits write, read from the left.
use Rattle.cw_logs.proofs.Terms.{◌≡◌, ℕ, suc, ◌+◌, ◌-◌, ◌*◌, ◌<◌, ◌≤◌, ◌^◌, Bool, true, false, ◌&&◌, ◌==◌, nat_lt}
use Rattle.cw_logs.proofs.Terms.{List, [], ◌∷◌, length, drop, drop-cons, get_or, refl, sym, ◌∙◌, ap, subst, arith}
use Rattle.cw_logs.proofs.Terms.{inl, inr, decimal, decimal_digit, decimal_nonempty, decimal-digits_value}
use Rattle.cw_logs.proofs.Terms.{digits_decimal, digits_value-decimal, first_decimal, eqb_tells, drop_all, both}
use Rattle.cw_logs.proofs.Terms.{both-left, both-right, is_digit}
use Rattle.std.specs.Int.{IsInRange}
use Rattle.std.proofs.lemmas.Str.Parse.{IsNumeralModel, numerals_by_fold, tells_by_index}

abbrev pub AreDigits : List ℕ → Type 0
AreDigits ds = (i : ℕ) → i < length ds → IsInRange 48 57 (get_or ds i 0)

-- the digits behind a number that those before them write
abbrev pub read : ℕ → List ℕ → ℕ
read n [] = n
read n (d ∷ ds) = read (n * 10 + (d - 48)) ds

own : IsNumeralModel AreDigits (read 0)
own = numerals_by_fold AreDigits tells_by_index read (record { empty = λ n. refl; more = λ n c cs h. refl })

pub read-more : (n : ℕ) (ds : List ℕ) → n ≤ read n ds
read-more n [] = omega arith
read-more n (d ∷ ds) = omega (arith, read-more (n * 10 + (d - 48)) ds)

pub digit-range : (d : ℕ) → is_digit d ≡ true → IsInRange 48 57 d
digit-range d h = grind arith

pub no-digit : (d : ℕ) → is_digit d ≡ false → IsInRange 48 57 d → ⊥
no-digit d h r = grind arith

-- ## Digits that are those of a number

module _ (digits : List ℕ) (number : ℕ) (few : number < 2 ^ 32) (is : digits ≡ decimal number) where
  pub is-some : 0 < length digits
  is-some = decimal-length (decimal_nonempty number (omega (arith, few)))
    where
      decimal-length : 0 < length (decimal number) → 0 < length digits
      decimal-length h = omega (arith, h, ap length is)

  -- a zero that leads is the only digit
  pub no-zero : get_or digits 0 0 ≡ 48 → length digits ≡ 1
  no-zero leads = elim (eqb_tells number 0) [
    | inl e ↦
        let zero : decimal 0 ≡ 48 ∷ [] = decimal_digit 0 (omega arith) in
        ap length (is ∙ (ap decimal e.1 ∙ zero))
    | inr e ↦ absurd (
        let k : 48 < get_or (decimal number) 0 0 = first_decimal number (omega (arith, e.1)) (omega (arith, few)) in
        omega (arith, k, ap (λ (xs : List ℕ). get_or xs 0 0) (sym is), leads))
  ]

  pub needless : (leads : Bool) → leads ≡ (nat_lt 1 (length digits) && get_or digits 0 0 == 48) → leads ≡ true → ⊥
  needless leads value holds =
      let both : (nat_lt 1 (length digits) && get_or digits 0 0 == 48) ≡ true = sym value ∙ holds in
      let zero : get_or digits 0 0 ≡ 48 = grind (arith, both-right (nat_lt 1 (length digits)) _ both) in
      absurd (grind (arith, no-zero zero, both-left (nat_lt 1 (length digits)) _ both))

  pub has-digits : AreDigits digits
  has-digits = subst AreDigits (sym is) (digits_decimal own number (omega (arith, few)))

  pub has-value : read 0 digits ≡ number
  has-value = ap (read 0) is ∙ digits_value-decimal own number (omega (arith, few))

-- ## Digits that are read

-- The digits before a place are read.
pub record IsRead (most : ℕ) (digits : List ℕ) (count number : ℕ) : Type 0 where
  pub few : number ≤ most
  pub so_far : (i : ℕ) → i < count → IsInRange 48 57 (get_or digits i 0)
  pub value : read number (drop count digits) ≡ read 0 digits

read-next : (number count : ℕ) (digits : List ℕ) → count < length digits
    → read number (drop count digits) ≡ read (number * 10 + (get_or digits count 0 - 48)) (drop (count + 1) digits)
read-next number count digits within =
    let next : suc count ≡ count + 1 = omega arith in
    ap (read number) (drop-cons digits count 0 within)
    ∙ ap (λ (k : ℕ). read (number * 10 + (get_or digits count 0 - 48)) (drop k digits)) next

pub none-read : (most : ℕ) (digits : List ℕ) → IsRead most digits 0 0
none-read most digits = record { few = omega arith; so_far = λ i below. omega (arith, below); value = refl }

module _ (most : ℕ) (digits : List ℕ) (count number : ℕ) (is : IsRead most digits count number)
    (within : count < length digits) where
  -- a number that has more digits is no smaller
  pub too-great : (most < 2 ^ 32) → most < number * 10 + (get_or digits count 0 - 48) → (other : ℕ) → other ≤ most
      → digits ≡ decimal other → ⊥
  too-great small above other below same =
      absurd (let value : read 0 digits ≡ other = has-value digits other (omega (arith, small, below)) same in
      let next : read 0 digits ≡ read (number * 10 + (get_or digits count 0 - 48)) (drop (count + 1) digits) =
      sym is.value ∙ read-next number count digits within in
      omega (
        arith,
        read-more (number * 10 + (get_or digits count 0 - 48)) (drop (count + 1) digits),
        value,
        next,
        above,
        below,
      ))

  pub one-read : is_digit (get_or digits count 0) ≡ true → number * 10 + (get_or digits count 0 - 48) ≤ most
      → IsRead most digits (count + 1) (number * 10 + (get_or digits count 0 - 48))
  one-read digit small = record {
    few = small;
    so_far = λ i below. elim (eqb_tells i count) [
      | inl e ↦ subst (λ (k : ℕ). IsInRange 48 57 (get_or digits k 0)) (sym e.1)
          (digit-range (get_or digits count 0) digit)
      | inr e ↦ is.so_far i (omega (arith, below, e.1))
    ];
    value = sym (read-next number count digits within) ∙ is.value;
  }

pub some-digits : (digits : List ℕ) (none : Bool) → none ≡ (length digits == 0) → none ≡ false → 0 < length digits
some-digits [] none value fails = absurd cc
some-digits (d ∷ ds) none value fails = omega arith

pub lone-zero : (digits : List ℕ) (leads : Bool) → leads ≡ (nat_lt 1 (length digits) && get_or digits 0 0 == 48)
    → leads ≡ false → get_or digits 0 0 ≡ 48 → length digits ≡ 1
lone-zero [] leads value fails zero = absurd cc
lone-zero (d ∷ []) leads value fails zero = refl
lone-zero (d ∷ e ∷ ds) leads value fails zero = absurd (
    let same : (get_or (d ∷ e ∷ ds) 0 0 == 48) ≡ true = grind (arith, zero) in
    let more : nat_lt 1 (length (d ∷ e ∷ ds)) ≡ true = grind arith in
    let all : true ≡ false =
    sym (both (nat_lt 1 (length (d ∷ e ∷ ds))) (get_or (d ∷ e ∷ ds) 0 0 == 48) more same) ∙ (sym value ∙ fails) in
    grind (arith, all))

-- all are read
pub all-read : (most : ℕ) (digits : List ℕ) (count number : ℕ) → most < 2 ^ 32 → IsRead most digits count number
    → length digits ≤ count → 0 < length digits → (get_or digits 0 0 ≡ 48 → length digits ≡ 1) → digits ≡ decimal number
all-read most digits count number small is whole some zero =
    let value : number ≡ read 0 digits = ap (read number) (sym (drop_all count digits whole)) ∙ is.value in
    let ds : AreDigits digits = λ i below. is.so_far i (omega (arith, below, whole)) in
    sym (ap decimal value ∙ decimal-digits_value own digits ds some zero (omega (arith, small, is.few, value)))
