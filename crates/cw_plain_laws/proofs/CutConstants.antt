-- A constant is a constant by itself: it is the same where what stands behind it is left out, and it ends with a
-- letter, a digit or a dot.
use Rattle.cw_plain_laws.proofs.Terms.{◌≡◌, ◌⊎◌, ℕ, zero, suc, ◌+◌, ◌-◌, ◌<◌, ◌≤◌, Bool, true, false, ◌&&◌, ◌||◌, not}
use Rattle.cw_plain_laws.proofs.Terms.{◌==◌, nat_lt, List, [], ◌∷◌, ◌++◌, length, drop, inl, inr, refl, sym, ap, subst}
use Rattle.cw_plain_laws.proofs.Terms.{◌∙◌, arith, length-drop, if◌then◌else◌, eqb-true, nat_tests, drop-drop, is_wordy}
use Rattle.cw_plain_laws.proofs.Terms.{both-left, both-right, drop-same, and-none, digits-le, mantissa-le, number-le}
use Rattle.cw_plain_laws.proofs.Terms.{apostrophe, begins, begins_by, digit_0, dot, is_in, is_letter_of, run, binary}
use Rattle.cw_plain_laws.proofs.Terms.{constant, decimal, digits, exponent, exponent_sign, fraction, digits_go_on}
use Rattle.cw_plain_laws.proofs.Terms.{hexadecimal, is_prefixed, mantissa, more_digits, number, scaled, Class}
use Rattle.cw_plain_laws.proofs.{Again.last_of, AgainLaws.run-last, ConstantLaws.none-there}
use Rattle.cw_rules.specs.declared.classes.Class.TheVariants as classes

-- ## Numbers under tests

some-there : (n : ℕ) → nat_lt 0 n ≡ true → 0 < n
some-there n e = grind (arith, nat_tests)

there-some : (n : ℕ) → 0 < n → nat_lt 0 n ≡ true
there-some n h = grind (arith, nat_tests)

-- What a number of digits adds where a test and their presence, or another test, allow it.
abbrev added : Bool → Bool → ℕ → ℕ → ℕ
added test free k n = if test && (free || nat_lt 0 n) then k + n else 0

added-least : (test free : Bool) (k n m total : ℕ) → added test free k n ≤ total → total ≤ k + m → test ≡ true → n ≤ m
added-least true true k n m total h most e = omega arith
added-least true false k n m total h most e = by (nat_lt 0 n) refl h
  where
    by : (t : Bool) → nat_lt 0 n ≡ t → (if t then k + n else 0) ≤ total → n ≤ m
    by true e h = omega arith
    by false e h = let none : n ≡ 0 = none-there n e in omega arith
added-least false free k n m total h most e = absurd cc

added-same : (test free : Bool) (k n m : ℕ) → (test ≡ true → n ≡ m) → added test free k n ≡ added test free k m
added-same true free k n m same = ap (added true free k) (same refl)
added-same false free k n m same = refl

-- one byte more than the digits
added-none : (test : Bool) (k n : ℕ) → 1 ≤ k → added test false k n ≤ k → added test false k n ≡ 0
added-none true k n some h = by (nat_lt 0 n) refl h
  where
    by : (t : Bool) → nat_lt 0 n ≡ t → (if t then k + n else 0) ≤ k → (if t then k + n else 0) ≡ 0
    by true e h = absurd (let there : 0 < n = some-there n e in let most : k + n ≤ k = h in omega arith)
    by false e h = refl
added-none false k n some h = refl

-- what stands behind a number that is there
abbrev behind : ℕ → ℕ → ℕ
behind n more = if nat_lt 0 n then n + more else 0

behind-first : (n more most : ℕ) → behind n more ≤ most → n ≤ most
behind-first n more most h = by (nat_lt 0 n) refl h
  where
    by : (t : Bool) → nat_lt 0 n ≡ t → (if t then n + more else 0) ≤ most → n ≤ most
    by true e h = omega arith
    by false e h = let none : n ≡ 0 = none-there n e in omega arith

behind-more : (n more most : ℕ) → behind n more ≤ most → nat_lt 0 n ≡ true → more ≤ most - n
behind-more n more most h e =
    let k : n + more ≤ most = subst (λ (t : Bool). (if t then n + more else 0) ≤ most) e h in omega arith

behind-same : (n m more other : ℕ) → n ≡ m → (nat_lt 0 m ≡ true → more ≡ other) → behind n more ≡ behind m other
behind-same n m more other e same = ap (λ k. behind k more) e ∙ by (nat_lt 0 m) refl
  where
    by : (t : Bool) → nat_lt 0 m ≡ t → (if t then m + more else 0) ≡ (if t then m + other else 0)
    by true e = ap (λ k. m + k) (same e)
    by false e = refl

-- nothing stands behind it
behind-nothing : (n more : ℕ) → 0 < n → more ≡ 0 → behind n more ≡ n
behind-nothing n more some none = ap (λ t. if t then n + more else 0) (there-some n some)
    ∙ (let k : more ≡ 0 = none in omega arith)

-- ## Without what stands behind it

-- what takes no more than these bytes is the same without the bytes behind them
abbrev Cuts : (List ℕ → ℕ) → Type 0
Cuts f = (t r : List ℕ) → f (t ++ r) ≤ length t → f t ≡ f (t ++ r)

pub run-cut : (class : Class) → Cuts (run class)
run-cut class [] r h = let k : run class r ≤ 0 = h in omega arith
run-cut class (b ∷ t) r h = by (is_in class b) refl (run-cut class t r)
  where
    by : (x : Bool) → is_in class b ≡ x → (run class (t ++ r) ≤ length t → run class t ≡ run class (t ++ r))
        → run class (b ∷ t) ≡ run class (b ∷ (t ++ r))
    by true e cut =
        let most : 1 + run class (t ++ r) ≤ suc (length t) =
        subst (λ (x : Bool). (if x then 1 + run class (t ++ r) else 0) ≤ suc (length t)) e h in
        ap (λ n. if is_in class b then 1 + n else 0) (cut (omega arith))
    by false e cut = ap (λ x. if x then 1 + run class t else 0) e
        ∙ sym (ap (λ x. if x then 1 + run class (t ++ r) else 0) e)

-- ## Digits

-- a byte that a test takes, and what stands behind it
abbrev counted : Bool → ℕ → ℕ
counted t n = if t then 1 + n else 0

-- where a digit begins the bytes, a run goes on with it
more-some : (class : Class) (r : List ℕ) → begins_by (is_in class) r ≡ true → 1 ≤ more_digits class r
more-some class [] e = absurd cc
more-some class (b ∷ r) e =
    let same : more_digits class (b ∷ r) ≡ 1 + more_digits class r =
    ap (λ t. counted (t || (b == apostrophe && begins_by (is_in class) r)) (more_digits class r)) e in
    omega arith

digits-some : (class : Class) (r : List ℕ) → begins_by (is_in class) r ≡ true → 1 ≤ digits class r
digits-some class r e =
    let same : digits class r ≡ more_digits class r = ap (λ t. if t then more_digits class r else 0) e in
    omega (arith, more-some class r e)

-- The last byte, where a run of digits might go on with it for what stands behind it.
last-more : (digit mark next : Bool) (n : ℕ) → (next ≡ true → 1 ≤ n) → counted (digit || (mark && next)) n ≤ 1
    → counted (digit || (mark && false)) 0 ≡ counted (digit || (mark && next)) n
last-more true mark next n some h = let k : 1 + n ≤ 1 = h in omega arith
last-more false true true n some h = absurd (let k : 1 + n ≤ 1 = h in let m : 1 ≤ n = some refl in omega arith)
last-more false true false n some h = refl
last-more false false next n some h = refl

more-cut : (class : Class) → Cuts (more_digits class)
more-cut class [] r h = let k : more_digits class r ≤ 0 = h in omega arith
more-cut class (b ∷ []) r h =
    last-more (is_in class b) (b == apostrophe) (begins_by (is_in class) r) (more_digits class r) (more-some class r) h
more-cut class (b ∷ c ∷ t) r h = by (digits_go_on class b (c ∷ t)) refl (more-cut class (c ∷ t) r)
  where
    by : (x : Bool) → digits_go_on class b (c ∷ t) ≡ x → (more_digits class (c ∷ (t ++ r)) ≤ suc
        (length t) → more_digits class (c ∷ t) ≡ more_digits class (c ∷ (t ++ r))) → more_digits class
        (b ∷ c ∷ t) ≡ more_digits class (b ∷ c ∷ (t ++ r))
    by true e cut =
        let most : 1 + more_digits class (c ∷ (t ++ r)) ≤ suc (suc (length t)) =
        subst (λ (x : Bool). counted x (more_digits class (c ∷ (t ++ r))) ≤ suc (suc (length t))) e h in
        ap (counted (digits_go_on class b (c ∷ t))) (cut (omega arith))
    by false e cut = ap (λ x. counted x (more_digits class (c ∷ t))) e
        ∙ sym (ap (λ x. counted x (more_digits class (c ∷ (t ++ r)))) e)

digits-cut : (class : Class) → Cuts (digits class)
digits-cut class [] r h = let k : digits class r ≤ 0 = h in omega arith
digits-cut class (b ∷ t) r h = by (is_in class b) refl
  where
    by : (x : Bool) → is_in class b ≡ x → digits class (b ∷ t) ≡ digits class (b ∷ (t ++ r))
    by true e =
        let most : more_digits class (b ∷ (t ++ r)) ≤ suc (length t) =
        subst (λ (x : Bool). (if x then more_digits class (b ∷ (t ++ r)) else 0) ≤ suc (length t)) e h in
        ap (λ n. if is_in class b then n else 0) (more-cut class (b ∷ t) r most)
    by false e = ap (λ x. if x then more_digits class (b ∷ t) else 0) e
        ∙ sym (ap (λ x. if x then more_digits class (b ∷ (t ++ r)) else 0) e)

-- ## A dot before another one

-- A fraction that is only lost because another dot stands behind the last byte.
record LosesDot (class : Class) (free : Bool) (t r : List ℕ) : Type 0 where
  free_is : free ≡ true
  only : t ≡ dot ∷ []
  none : fraction class free (t ++ r) ≡ 0

abbrev dotted : Bool → Bool → Bool → ℕ → ℕ
dotted here follows free n = if here && (not follows && (free || nat_lt 0 n)) then 1 + n else 0

last-dot : (here follows free : Bool) (n : ℕ) → dotted here follows free n ≤ 1 → (dotted here false free 0 ≡ dotted here
    follows free n) ⊎ ((here ≡ true) × (free ≡ true) × (dotted here follows free n ≡ 0))
last-dot false follows free n h = inl refl
last-dot true true true n h = inr (refl, refl, refl)
last-dot true true false n h = inl refl
last-dot true false true n h = inl (let k : 1 + n ≤ 1 = h in omega arith)
last-dot true false false n h = inl (by (nat_lt 0 n) refl h)
  where
    by : (t : Bool) → nat_lt 0 n ≡ t → (if t then 1 + n else 0) ≤ 1 → 0 ≡ (if t then 1 + n else 0)
    by true e h = absurd (let some : 0 < n = some-there n e in let k : 1 + n ≤ 1 = h in omega arith)
    by false e h = refl

dotted-same : (here follows free : Bool) (n m most : ℕ) → dotted here follows free m ≤ suc most → (m ≤ most → n ≡ m)
    → dotted here follows free n ≡ dotted here follows free m
dotted-same false follows free n m most h same = refl
dotted-same true true free n m most h same = refl
dotted-same true false true n m most h same = ap (λ k. 1 + k) (same (let k : 1 + m ≤ suc most = h in omega arith))
dotted-same true false false n m most h same = by (nat_lt 0 m) refl h
  where
    by : (t : Bool) → nat_lt 0 m ≡ t → (if t then 1 + m else 0) ≤ suc most
        → dotted true false false n ≡ dotted true false false m
    by true e h = ap (dotted true false false) (same (let k : 1 + m ≤ suc most = h in omega arith))
    by false e h = ap (dotted true false false) (same (let none : m ≡ 0 = none-there m e in omega arith))

fraction-cut : (class : Class) (free : Bool) (t r : List ℕ) → fraction class free (t ++ r) ≤ length t
    → (fraction class free t ≡ fraction class free (t ++ r)) ⊎ LosesDot class free t r
fraction-cut class free [] r h = inl (let k : fraction class free r ≤ 0 = h in omega arith)
fraction-cut class free (b ∷ []) r h = elim (last-dot (b == dot) (begins dot r) free (digits class r) h) [
  | inl same ↦ inl same
  | inr lost ↦ inr (record {
    free_is = lost.1;
    only = ap (λ c. c ∷ []) (eqb-true b dot lost.0);
    none = lost.2;
  })
]
fraction-cut class free (b ∷ c ∷ t) r h = inl (dotted-same (b == dot) (c == dot) free (digits class (c ∷ t))
    (digits class (c ∷ (t ++ r))) (suc (length t)) h (digits-cut class (c ∷ t) r))

-- Some bytes are taken, and the last one is a dot.
record IsLost (n : ℕ) (t r : List ℕ) : Type 0 where
  some : 0 < n
  size : n + 1 ≡ length t
  next : drop n (t ++ r) ≡ dot ∷ r

-- the same without the bytes behind, but for such a dot
abbrev CutsOrLoses : (List ℕ → ℕ) → Type 0
CutsOrLoses f = (t r : List ℕ) → f (t ++ r) ≤ length t → (f t ≡ f (t ++ r)) ⊎ IsLost (f (t ++ r)) t r

-- what stands behind a number of bytes, without what stands behind that
tail-same : (f : List ℕ → ℕ) (t r : List ℕ) (n m : ℕ) → n ≡ m → n ≤ length t → f (drop m (t ++ r)) ≡ f (drop n t ++ r)
tail-same f t r n m e low = sym (ap (λ k. f (drop k (t ++ r))) e) ∙ ap f (drop-same n t r low)

tail-cut : (f : List ℕ → ℕ) → Cuts f → (t r : List ℕ) (n m : ℕ) → n ≡ m → n ≤ length t
    → f (drop m (t ++ r)) ≤ length t - m → f (drop n t) ≡ f (drop m (t ++ r))
tail-cut f cut t r n m e low most =
    let all = tail-same f t r n m e low in cut (drop n t) r (omega (arith, length-drop n t, all)) ∙ sym all

-- ## Numbers

sign-most : (bytes : List ℕ) → exponent_sign bytes ≤ 1
sign-most bytes = by (begins 43 bytes || begins 45 bytes)
  where
    by : (t : Bool) → (if t then 1 else 0) ≤ 1
    by true = omega arith
    by false = omega arith

exponent-cut : (letter : ℕ) → Cuts (exponent letter)
exponent-cut letter [] r h = let k : exponent letter r ≤ 0 = h in omega arith
exponent-cut letter (b ∷ []) r h =
    let s = exponent_sign r in
    let few : exponent letter (b ∷ r) ≤ 1 + s = let k : exponent letter (b ∷ r) ≤ 1 = h in omega arith in
    and-number (is_letter_of letter b)
    ∙ sym (added-none (is_letter_of letter b) (1 + s) (digits classes.Digit (drop (1 + s) (b ∷ r))) (omega arith) few)
  where
    and-number : (t : Bool) → (if t && nat_lt 0 0 then 1 + 0 else 0) ≡ 0
    and-number true = refl
    and-number false = refl
exponent-cut letter (b ∷ c ∷ t) r h =
    let s = exponent_sign (c ∷ t) in
    let size : 1 + s ≤ suc (suc (length t)) = omega (arith, sign-most (c ∷ t)) in
    let same = drop-same (1 + s) (b ∷ c ∷ t) r size in
    let all = b ∷ c ∷ (t ++ r) in
    added-same (is_letter_of letter b) false (1 + s) (digits classes.Digit (drop (1 + s) (b ∷ c ∷ t)))
    (digits classes.Digit (drop (1 + s) all)) (λ e.
    let few : digits classes.Digit (drop (1 + s) all) ≤ suc (suc (length t)) - (1 + s) =
    added-least (is_letter_of letter b) false (1 + s) (digits classes.Digit (drop (1 + s) all))
    (suc (suc (length t)) - (1 + s)) (suc (suc (length t))) h (omega arith) e in
    let left : length (drop (1 + s) (b ∷ c ∷ t)) ≡ suc (suc (length t)) - (1 + s) = length-drop (1 + s) (b ∷ c ∷ t) in
    let less : digits classes.Digit (drop (1 + s) (b ∷ c ∷ t) ++ r) ≤ length (drop (1 + s) (b ∷ c ∷ t)) =
    omega (arith, ap (digits classes.Digit) same) in
    digits-cut classes.Digit (drop (1 + s) (b ∷ c ∷ t)) r less ∙ ap (digits classes.Digit) (sym same))

mantissa-cut : (class : Class) → CutsOrLoses (mantissa class)
mantissa-cut class t r h = by (fraction-cut class free (drop d t) r less)
  where
    d : ℕ
    d = digits class t

    free : Bool
    free = nat_lt 0 d

    most : mantissa class (t ++ r) ≤ length t
    most = h

    e : d ≡ digits class (t ++ r)
    e = digits-cut class t r (omega (arith, most))

    whole : mantissa class (t ++ r) ≡ d + fraction class free (drop d t ++ r)
    whole = sym (λ i. e i + fraction class (nat_lt 0 (e i)) (drop (e i) (t ++ r)))
        ∙ ap (λ l. d + fraction class free l) (drop-same d t r (digits-le class t))

    less : fraction class free (drop d t ++ r) ≤ length (drop d t)
    less = omega (arith, most, whole, length-drop d t, digits-le class t)

    by : (fraction class free (drop d t) ≡ fraction class free (drop d t ++ r)) ⊎ LosesDot class free (drop d t) r
        → (mantissa class t ≡ mantissa class (t ++ r)) ⊎ IsLost (mantissa class (t ++ r)) t r
    by (inl same) = inl (ap (λ n. d + n) same ∙ sym whole)
    by (inr lost) =
        let size : length t - d ≡ 1 = sym (length-drop d t) ∙ ap length lost.only in
        let all : d ≡ mantissa class (t ++ r) = sym (whole ∙ ap (λ k. d + k) lost.none ∙ omega arith) in
        inr (subst (λ n. IsLost n t r) all (record {
          some = some-there d lost.free_is;
          size = omega (arith, size);
          next = drop-same d t r (digits-le class t) ∙ ap (λ l. l ++ r) lost.only;
        }))

scaled-cut : (class : Class) (letter : ℕ) → is_letter_of letter dot ≡ false → CutsOrLoses (scaled class letter)
scaled-cut class letter none t r h = by (mantissa-cut class t r (behind-first m more (length t) h))
  where
    m : ℕ
    m = mantissa class (t ++ r)

    more : ℕ
    more = exponent letter (drop m (t ++ r))

    -- a dot begins no exponent
    no-exponent : exponent letter (dot ∷ r) ≡ 0
    no-exponent = ap (λ x. added x false (1 + exponent_sign r)
        (digits classes.Digit (drop (1 + exponent_sign r) (dot ∷ r)))) none

    by : (mantissa class t ≡ m) ⊎ IsLost m t r
        → (scaled class letter t ≡ scaled class letter (t ++ r)) ⊎ IsLost (scaled class letter (t ++ r)) t r
    by (inl e) = inl (behind-same (mantissa class t) m (exponent letter (drop (mantissa class t) t)) more e
        (λ some. tail-cut (exponent letter) (exponent-cut letter) t r (mantissa class t) m e (mantissa-le class t)
        (behind-more m more (length t) h some)))
    by (inr lost) = inr (subst (λ n. IsLost n t r)
        (sym (behind-nothing m more lost.some (ap (exponent letter) lost.next ∙ no-exponent))) lost)

-- ## Behind `0` and a letter

abbrev prefixed : ℕ → Class → (List ℕ → ℕ) → List ℕ → ℕ
prefixed letter class f bytes = if is_prefixed letter class bytes then 2 + f (drop 2 bytes) else 0

no-prefix-one : (letter : ℕ) (class : Class) (f : List ℕ → ℕ) (b : ℕ) → prefixed letter class f (b ∷ []) ≡ 0
no-prefix-one letter class f b = ap (λ t. if t then 2 + f [] else 0) (and-none (b == digit_0))

tested-few : (t : Bool) (n : ℕ) → (if t then 2 + n else 0) ≤ 1 → (if t then 2 + n else 0) ≡ 0
tested-few true n h = absurd (let k : 2 + n ≤ 1 = h in omega arith)
tested-few false n h = refl

abbrev HasSome : Class → (List ℕ → ℕ) → Type 0
HasSome class f = (r : List ℕ) → begins_by (is_in class) r ≡ true → 1 ≤ f r

-- a digit is wanted behind the letter
no-digit : (first second digit : Bool) (n m : ℕ) → (digit ≡ true → 1 ≤ n) → (if first && (second && digit) then 2 + n
    else 0) ≤ 2 → (if first && (second && false) then 2 + m else 0) ≡ (if first && (second && digit) then 2 + n else 0)
no-digit true true true n m some h = absurd (let k : 2 + n ≤ 2 = h in let l : 1 ≤ n = some refl in omega arith)
no-digit true true false n m some h = refl
no-digit true false digit n m some h = refl
no-digit false second digit n m some h = refl

prefixed-cut : (letter : ℕ) (class : Class) (f : List ℕ → ℕ) → HasSome class f → CutsOrLoses f
    → CutsOrLoses (prefixed letter class f)
prefixed-cut letter class f some cut [] r h = inl (let k : prefixed letter class f r ≤ 0 = h in omega arith)
prefixed-cut letter class f some cut (b ∷ []) r h = inl (no-prefix-one letter class f b
    ∙ sym (tested-few (is_prefixed letter class (b ∷ r)) (f (drop 2 (b ∷ r))) h))
prefixed-cut letter class f some cut (b ∷ c ∷ []) r h =
    inl (no-digit (b == digit_0) (is_letter_of letter c) (begins_by (is_in class) r) (f r) (f []) (some r) h)
prefixed-cut letter class f some cut (b ∷ c ∷ d ∷ t) r h = by (is_prefixed letter class (b ∷ c ∷ d ∷ t)) refl
  where
    by : (x : Bool) → is_prefixed letter class (b ∷ c ∷ d ∷ t) ≡ x
        → (prefixed letter class f (b ∷ c ∷ d ∷ t) ≡ prefixed letter class f (b ∷ c ∷ d ∷ (t ++ r)))
        ⊎ IsLost (prefixed letter class f (b ∷ c ∷ d ∷ (t ++ r))) (b ∷ c ∷ d ∷ t) r
    by false e = inl (ap (λ x. if x then 2 + f (d ∷ t) else 0) e
        ∙ sym (ap (λ x. if x then 2 + f (d ∷ (t ++ r)) else 0) e))
    by true e =
        let all : prefixed letter class f (b ∷ c ∷ d ∷ (t ++ r)) ≡ 2 + f (d ∷ (t ++ r)) =
        ap (λ x. if x then 2 + f (d ∷ (t ++ r)) else 0) e in
        let few : 2 + f (d ∷ (t ++ r)) ≤ suc (suc (suc (length t))) =
        subst (λ n. n ≤ suc (suc (suc (length t)))) all h in
        elim (cut (d ∷ t) r (omega arith)) [
          | inl same ↦ inl (ap (λ x. if x then 2 + f (d ∷ t) else 0) e ∙ ap (λ n. 2 + n) same ∙ sym all)
          | inr lost ↦ inr (subst (λ n. IsLost n (b ∷ c ∷ d ∷ t) r) (sym all) (record {
            some = omega arith;
            size = omega (arith, lost.size);
            next = ap (λ n. drop n (b ∷ c ∷ d ∷ (t ++ r))) (omega arith)
                ∙ sym (drop-drop (f (d ∷ (t ++ r))) 2 (b ∷ c ∷ d ∷ (t ++ r))) ∙ lost.next;
          }))
        ]

scaled-some : (class : Class) (letter : ℕ) → HasSome class (scaled class letter)
scaled-some class letter r e =
    let m = mantissa class r in
    let least : 1 ≤ m = omega (arith, digits-some class r e) in
    let all : scaled class letter r ≡ m + exponent letter (drop m r) =
    ap (λ t. if t then m + exponent letter (drop m r) else 0) (there-some m (omega arith)) in
    omega arith

hexadecimal-cut : CutsOrLoses hexadecimal
hexadecimal-cut = prefixed-cut 120 classes.HexDigit (scaled classes.HexDigit 112) (scaled-some classes.HexDigit 112)
    (scaled-cut classes.HexDigit 112 refl)

binary-cut : CutsOrLoses binary
binary-cut = prefixed-cut 98 classes.BinaryDigit (digits classes.BinaryDigit) (digits-some classes.BinaryDigit)
    (λ t r h. inl (digits-cut classes.BinaryDigit t r h))

-- ## Constants

-- one rule, or the next one where it takes nothing
abbrev first_or : (List ℕ → ℕ) → (List ℕ → ℕ) → List ℕ → ℕ
first_or f g bytes = if nat_lt 0 (f bytes) then f bytes else g bytes

first-cut : (f g : List ℕ → ℕ) → CutsOrLoses f → CutsOrLoses g → CutsOrLoses (first_or f g)
first-cut f g cut other t r h = grind (arith, none-there)

number-cut : CutsOrLoses number
number-cut = first-cut hexadecimal (first_or binary decimal) hexadecimal-cut
    (first-cut binary decimal binary-cut (scaled-cut classes.Digit 101 refl))

-- A whole constant is one without what stands behind it: a dot that ends it has no other dot behind it.
pub constant-cut : (t r : List ℕ) → constant (t ++ r) ≡ length t → constant t ≡ length t
constant-cut t r whole = by (number-cut t r (behind-first n more (length t) most))
  where
    n : ℕ
    n = number (t ++ r)

    more : ℕ
    more = run classes.Suffix (drop n (t ++ r))

    all : constant (t ++ r) ≡ length t
    all = whole

    most : constant (t ++ r) ≤ length t
    most = omega (arith, all)

    by : (number t ≡ n) ⊎ IsLost n t r → constant t ≡ length t
    by (inl e) = behind-same (number t) n (run classes.Suffix (drop (number t) t)) more e
        (λ some. tail-cut (run classes.Suffix) (run-cut classes.Suffix) t r (number t) n e (number-le t)
        (behind-more n more (length t) most some)) ∙ whole
    by (inr lost) =
        let few : constant (t ++ r) ≡ n = behind-nothing n more lost.some (ap (run classes.Suffix) lost.next) in
        absurd (omega (arith, all, few, lost.size))

-- ## Its last byte

drop-none : (n : ℕ) → drop {A = ℕ} n [] ≡ []
drop-none n = grind arith

last-drop : (n b : ℕ) (bs : List ℕ) (c : ℕ) (cs : List ℕ) → drop n (b ∷ bs) ≡ c ∷ cs → last_of b bs ≡ last_of c cs
last-drop zero b bs c cs e = let first : b ≡ c = cc in let rest : bs ≡ cs = cc in λ i. last_of (first i) (rest i)
last-drop (suc n) b [] c cs e = absurd (let k : [] ≡ c ∷ cs = sym (drop-none n) ∙ e in cc)
last-drop (suc n) b (d ∷ bs) c cs e = last-drop n d bs c cs e

digit-wordy : (z : ℕ) → is_in classes.Digit z ≡ true → is_wordy z ≡ true
digit-wordy z e = grind (arith, nat_tests)

binary-wordy : (z : ℕ) → is_in classes.BinaryDigit z ≡ true → is_wordy z ≡ true
binary-wordy z e = grind (arith, nat_tests)

hex-wordy : (z : ℕ) → is_in classes.HexDigit z ≡ true → is_wordy z ≡ true
hex-wordy z e = grind (arith, nat_tests)

suffix-wordy : (z : ℕ) → is_in classes.Suffix z ≡ true → is_wordy z ≡ true
suffix-wordy z e = grind (arith, nat_tests)

dot-wordy : (z : ℕ) → (z == dot) ≡ true → is_wordy z ≡ true
dot-wordy z e = grind (arith, nat_tests)

-- a class whose bytes are all wordy
abbrev AreWordy : Class → Type 0
AreWordy class = (z : ℕ) → is_in class z ≡ true → is_wordy z ≡ true

-- What takes all of some bytes ends with a wordy byte.
abbrev EndsWordy : (List ℕ → ℕ) → Type 0
EndsWordy f = (b : ℕ) (bs : List ℕ) → f (b ∷ bs) ≡ suc (length bs) → is_wordy (last_of b bs) ≡ true

tail-last : (f : List ℕ → ℕ) → EndsWordy f → (n b : ℕ) (bs : List ℕ) → n ≤ suc (length bs) → n + f (drop n (b ∷ bs))
    ≡ suc (length bs) → (n ≡ suc (length bs) → is_wordy (last_of b bs) ≡ true) → is_wordy (last_of b bs) ≡ true
tail-last f ends n b bs low whole first = go (drop n (b ∷ bs)) refl
  where
    go : (l : List ℕ) → drop n (b ∷ bs) ≡ l → is_wordy (last_of b bs) ≡ true
    go [] e =
        let left : suc (length bs) - n ≡ 0 = sym (length-drop n (b ∷ bs)) ∙ ap length e in
        first (omega arith)
    go (c ∷ cs) e =
        let size : suc (length cs) ≡ suc (length bs) - n = sym (ap length e) ∙ length-drop n (b ∷ bs) in
        let same : f (drop n (b ∷ bs)) ≡ f (c ∷ cs) = ap f e in
        ap is_wordy (last-drop n b bs c cs e) ∙ ends c cs (omega arith)

-- what a test allows is there
tested-some : (t : Bool) (n total : ℕ) → (if t then n else 0) ≡ suc total → (t ≡ true) × (n ≡ suc total)
tested-some true n total e = (refl, e)
tested-some false n total e = absurd (let k : 0 ≡ suc total = e in omega arith)

more-last : (class : Class) → AreWordy class → EndsWordy (more_digits class)
more-last class wordy b [] e = wordy b (only (is_in class b) (b == apostrophe) e)
  where
    only : (digit mark : Bool) → counted (digit || (mark && false)) 0 ≡ 1 → digit ≡ true
    only true mark e = refl
    only false true e = absurd (let k : 0 ≡ 1 = e in omega arith)
    only false false e = absurd (let k : 0 ≡ 1 = e in omega arith)
more-last class wordy b (c ∷ bs) e = more-last class wordy c bs (rest (digits_go_on class b (c ∷ bs)) e)
  where
    rest : (t : Bool) → counted t (more_digits class (c ∷ bs)) ≡ suc (suc (length bs))
        → more_digits class (c ∷ bs) ≡ suc (length bs)
    rest true e = let k : 1 + more_digits class (c ∷ bs) ≡ suc (suc (length bs)) = e in omega arith
    rest false e = absurd (let k : 0 ≡ suc (suc (length bs)) = e in omega arith)

digits-last : (class : Class) → AreWordy class → EndsWordy (digits class)
digits-last class wordy b bs e =
    more-last class wordy b bs (tested-some (is_in class b) (more_digits class (b ∷ bs)) (length bs) e).1

fraction-last : (class : Class) → AreWordy class → (free : Bool) → EndsWordy (fraction class free)
fraction-last class wordy free b [] e = dot-wordy b (both-left (b == dot) (not (begins dot []) && (free || nat_lt 0 0))
    (tested-some ((b == dot) && (not (begins dot []) && (free || nat_lt 0 0))) 1 0 e).0)
fraction-last class wordy free b (c ∷ bs) e =
    let a = tested-some ((b == dot) && (not (c == dot) && (free || nat_lt 0 (digits class (c ∷ bs)))))
    (1 + digits class (c ∷ bs)) (suc (length bs)) e in
    digits-last class wordy c bs (omega (arith, a.1))

exponent-last : (letter : ℕ) → EndsWordy (exponent letter)
exponent-last letter b bs e =
    let s = exponent_sign bs in
    let n = digits classes.Digit (drop (1 + s) (b ∷ bs)) in
    let a = tested-some (is_letter_of letter b && nat_lt 0 n) ((1 + s) + n) (length bs) e in
    let some : 0 < n = some-there n (both-right (is_letter_of letter b) (nat_lt 0 n) a.0) in
    tail-last (digits classes.Digit) (digits-last classes.Digit digit-wordy) (1 + s) b bs (omega (arith, a.1)) a.1
    (λ all. absurd (let k : (1 + s) + n ≡ suc (length bs) = a.1 in omega arith))

behind-some : (n more total : ℕ) → behind n more ≡ suc total → (nat_lt 0 n ≡ true) × (n + more ≡ suc total)
behind-some n more total e = tested-some (nat_lt 0 n) (n + more) total e

mantissa-last : (class : Class) → AreWordy class → EndsWordy (mantissa class)
mantissa-last class wordy b bs e =
    let d = digits class (b ∷ bs) in
    tail-last (fraction class (nat_lt 0 d)) (fraction-last class wordy (nat_lt 0 d)) d b bs
    (digits-le class (b ∷ bs)) e (λ all. digits-last class wordy b bs all)

scaled-last : (class : Class) (letter : ℕ) → AreWordy class → EndsWordy (scaled class letter)
scaled-last class letter wordy b bs e =
    let m = mantissa class (b ∷ bs) in
    let a = behind-some m (exponent letter (drop m (b ∷ bs))) (length bs) e in
    tail-last (exponent letter) (exponent-last letter) m b bs (omega (arith, a.1)) a.1 (mantissa-last class wordy b bs)

prefixed-last : (letter : ℕ) (class : Class) (f : List ℕ → ℕ) → HasSome class f → EndsWordy f
    → EndsWordy (prefixed letter class f)
prefixed-last letter class f some ends b bs e =
    grind (arith, tested-some (is_prefixed letter class (b ∷ bs)) (2 + f (drop 2 (b ∷ bs))) (length bs) e)

first-last : (f g : List ℕ → ℕ) → EndsWordy f → EndsWordy g → EndsWordy (first_or f g)
first-last f g ends other b bs e = grind (arith, last_of)

number-last : EndsWordy number
number-last = first-last hexadecimal (first_or binary decimal) (prefixed-last 120 classes.HexDigit
    (scaled classes.HexDigit 112) (scaled-some classes.HexDigit 112) (scaled-last classes.HexDigit 112 hex-wordy))
    (first-last binary decimal (prefixed-last 98 classes.BinaryDigit (digits classes.BinaryDigit) (digits-some
    classes.BinaryDigit) (digits-last classes.BinaryDigit binary-wordy)) (scaled-last classes.Digit 101 digit-wordy))

suffix-last : EndsWordy (run classes.Suffix)
suffix-last b bs e = suffix-wordy (last_of b bs) (run-last classes.Suffix b bs e)

pub constant-last : EndsWordy constant
constant-last b bs e =
    let n = number (b ∷ bs) in
    let a = behind-some n (run classes.Suffix (drop n (b ∷ bs))) (length bs) e in
    tail-last (run classes.Suffix) suffix-last n b bs (number-le (b ∷ bs)) a.1 (number-last b bs)
