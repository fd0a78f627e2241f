-- Each token of a text is found by its number.
use Rattle.cw_plain_laws.proofs.Terms.{◌≡◌, ℕ, zero, suc, ◌+◌, ◌<◌, ◌≤◌, Bool, true, false, ◌==◌, List, [], ◌∷◌, ◌++◌}
use Rattle.cw_plain_laws.proofs.Terms.{Some, append-nil, append_assoc, ap, arith, drop, refl, subst, sym, take, ◌∙◌}
use Rattle.cw_plain_laws.proofs.Terms.{if◌then◌else◌, nat_tests, answers, beginning, fresh_at, last_at, still_fresh}
use Rattle.cw_plain_laws.proofs.Terms.{tokens_of, Nest, End, Leaf, Group, first_nest, group, leaf, nest, nests, AreBare}
use Rattle.cw_plain_laws.proofs.Terms.{AreNotes, TakesAll, bare-all-cut, found-takes, Answer, Token, Begin, Finish}
use Rattle.cw_plain_laws.proofs.Terms.{Note, Seen, Where, found_apart, Mode}
use Rattle.cw_print.specs.Found.{numbered}

-- ## Tokens begin one behind another

abbrev pub RisesFrom : ℕ → List Answer → Type 0
RisesFrom from [] = Unit {0}
RisesFrom from (Token t ∷ answers) = (from ≤ t.span.start) × (t.span.start < t.span.end) × RisesFrom t.span.end answers
RisesFrom from (Begin t ∷ answers) = (from ≤ t.span.start) × (t.span.start < t.span.end) × RisesFrom t.span.end answers
RisesFrom from (Finish t ∷ answers) = RisesFrom from answers
RisesFrom from (Note kind place ∷ answers) = RisesFrom from answers

bare-rises : (place from : ℕ) (xs ys : List Answer) → AreBare place xs → RisesFrom from ys → RisesFrom from (xs ++ ys)
bare-rises place from [] ys bare rises = rises
bare-rises place from (Finish t ∷ xs) ys bare rises = bare-rises place from xs ys bare.3 rises
bare-rises place from (Note kind about ∷ xs) ys bare rises = bare-rises place from xs ys bare rises
bare-rises _ _ _ _ bare _ = absurd bare

notes-rise : (from : ℕ) (xs ys : List Answer) → AreNotes xs → RisesFrom from ys → RisesFrom from (xs ++ ys)
notes-rise from [] ys notes rises = rises
notes-rise from (Note kind about ∷ xs) ys notes rises = notes-rise from xs ys notes rises
notes-rise _ _ _ notes _ = absurd notes

whole-rises : (place more from : ℕ) (bytes : List ℕ) (xs ys : List Answer) → TakesAll place bytes more xs
    → from ≤ place → ((low : ℕ) → low ≤ (place + 1) + more → RisesFrom low ys) → RisesFrom from (xs ++ ys)
whole-rises place more from bytes xs ys takes low rest = grind (arith, notes-rise)

answers-rise : (bytes : List ℕ) (w : Where) (fresh : Bool) (last place taken from : ℕ) → from ≤ place + taken
    → RisesFrom from (answers bytes w fresh last place taken)
answers-rise [] w fresh last place taken from low = subst (RisesFrom from) (append-nil (answers [] w fresh last place
    taken)) (bare-rises place from (answers [] w fresh last place taken) [] (bare-all-cut w.part w.comments place _) tt)
answers-rise (byte ∷ bytes) w fresh last place zero from low =
    let f = found_apart w fresh last place byte bytes in
    let t = found-takes w fresh last place byte bytes in
    let more = answers bytes f.next (still_fresh fresh byte) byte (place + 1) f.more in
    subst (RisesFrom from) (sym (ap (λ l. l ++ more) t.split ∙ append_assoc t.first t.rest more)) (bare-rises place from
    t.first (t.rest ++ more) t.bare (whole-rises place f.more from (byte ∷ bytes) t.rest more t.whole (omega arith)
    (λ least h. answers-rise bytes f.next (still_fresh fresh byte) byte (place + 1) f.more least h)))
answers-rise (byte ∷ bytes) w fresh last place (suc taken) from low =
    answers-rise bytes w (still_fresh fresh byte) byte (place + 1) taken from (omega (arith, low))

-- ## Each is found

-- what holds of each token, and of each beginning
abbrev pub AllTokens : (Seen → Type 0) → List Answer → Type 0
AllTokens P [] = Unit {0}
AllTokens P (Token t ∷ answers) = P t × AllTokens P answers
AllTokens P (Begin t ∷ answers) = P t × AllTokens P answers
AllTokens P (Finish t ∷ answers) = AllTokens P answers
AllTokens P (Note kind place ∷ answers) = AllTokens P answers

abbrev pub IsFound : List Answer → Seen → Type 0
IsFound all t = numbered t.span.start all ≡ Some t

-- the answers from some number on are these
abbrev GoesOn : List Answer → ℕ → List Answer → Type 0
GoesOn all from answers = (number : ℕ) → from ≤ number → numbered number answers ≡ numbered number all

chosen : {A : Type 0} (t : Bool) (x y : A) → t ≡ true → (if t then x else y) ≡ x
chosen t x y e = ap (λ b. if b then x else y) e

passed : {A : Type 0} (t : Bool) (x y : A) → t ≡ false → (if t then x else y) ≡ y
passed t x y e = ap (λ b. if b then x else y) e

same-number : (n : ℕ) → (n == n) ≡ true
same-number n = grind (arith, nat_tests)

other-number : (a b : ℕ) → a < b → (a == b) ≡ false
other-number a b less = grind (arith, nat_tests)

all-found : (all : List Answer) (from : ℕ) (answers : List Answer) → RisesFrom from answers → GoesOn all from answers
    → AllTokens (IsFound all) answers
all-found all from [] rises on = tt
all-found all from (Token t ∷ answers) rises on = (
  sym (on t.span.start rises.0)
      ∙ chosen (t.span.start == t.span.start) (Some t) (numbered t.span.start answers) (same-number t.span.start),
  all-found all t.span.end answers rises.2 (λ number low. sym (passed (t.span.start == number) (Some t)
      (numbered number answers) (other-number t.span.start number (omega (arith, rises.1, low))))
      ∙ on number (omega (arith, rises.0, rises.1, low))),
)
all-found all from (Begin t ∷ answers) rises on = (
  sym (on t.span.start rises.0)
      ∙ chosen (t.span.start == t.span.start) (Some t) (numbered t.span.start answers) (same-number t.span.start),
  all-found all t.span.end answers rises.2 (λ number low. sym (passed (t.span.start == number) (Some t)
      (numbered number answers) (other-number t.span.start number (omega (arith, rises.1, low))))
      ∙ on number (omega (arith, rises.0, rises.1, low))),
)
all-found all from (Finish t ∷ answers) rises on = all-found all from answers rises on
all-found all from (Note kind place ∷ answers) rises on = all-found all from answers rises on

pub tokens-found : (text : List ℕ) (from end : ℕ) (mode : Mode)
    → AllTokens (IsFound (tokens_of text from end mode)) (tokens_of text from end mode)
tokens-found text from end mode =
    let all = tokens_of text from end mode in
    all-found all from all (answers-rise (drop from (take end text)) (beginning mode) (fresh_at (take end text) from)
    (last_at (take end text) from) from 0 from (omega arith)) (λ number low. refl)

-- ## Nests

abbrev pub AllOf : (Seen → Type 0) → Nest → Type 0
AllOf P End = Unit {0}
AllOf P (Leaf t rest) = P t × AllOf P rest
AllOf P (Group t inner rest) = P t × AllOf P inner × AllOf P rest

abbrev AllNests : (Seen → Type 0) → List Nest → Type 0
AllNests P [] = Unit {0}
AllNests P (n ∷ ns) = AllOf P n × AllNests P ns

leaf-all : (P : Seen → Type 0) (t : Seen) (ns : List Nest) → P t → AllNests P ns → AllNests P (leaf t ns)
leaf-all P t ns is all = grind arith

group-all : (P : Seen → Type 0) (t : Seen) (ns : List Nest) → P t → AllNests P ns → AllNests P (group t ns)
group-all P t ns is all = grind arith

nests-all : (P : Seen → Type 0) (answers : List Answer) → AllTokens P answers → AllNests P (nests answers)
nests-all P [] all = (tt, tt)
nests-all P (Token t ∷ answers) all = leaf-all P t (nests answers) all.0 (nests-all P answers all.1)
nests-all P (Begin t ∷ answers) all = group-all P t (nests answers) all.0 (nests-all P answers all.1)
nests-all P (Finish t ∷ answers) all = (tt, nests-all P answers all)
nests-all P (Note kind place ∷ answers) all = nests-all P answers all

first-all : (P : Seen → Type 0) (ns : List Nest) → AllNests P ns → AllOf P (first_nest ns)
first-all P ns all = grind arith

pub nest-all : (P : Seen → Type 0) (answers : List Answer) → AllTokens P answers → AllOf P (nest answers)
nest-all P answers all = first-all P (nests answers) (nests-all P answers all)
