-- An ignored name is one whose reduced text is empty or `...`.
use Rattle.cw_phase1.proofs.Terms.{◌≡◌, ℕ, zero, suc, ◌&&◌, Bool, true, false, nat_eq, List, [], ◌∷◌, drop, refl, arith}
use Rattle.cw_phase1.proofs.Terms.{ne_eqb, if◌then◌else◌, eq-eqb, eqb-true, pointwise, TokKind, is_void_text, is_white}
use Rattle.cw_phase1.proofs.Terms.{blank_before, is_reduced_void, name_text, naming, naming_by, reduced, single_blanks}
use Rattle.cw_phase1.proofs.Terms.{without_first_blank}
use Rattle.std.proofs.lemmas.Bool.Decides.{nat_tests}
use Rattle.cw_rules.specs.{declared.classes.Class.TheVariants.White, Bytes.begins_with, Bytes.is_in, Bytes.run}

and-assoc : (a b c : Bool) → ((a && b) && c) ≡ (a && (b && c))
and-assoc true b c = refl
and-assoc false b c = refl

-- ## White space at the beginning

first-blank : (bytes : List ℕ) → without_first_blank (blank_before bytes) ≡ without_first_blank bytes
first-blank bytes = grind arith

skipped : (b : ℕ) (bs : List ℕ) → drop (run White (b ∷ bs)) (b ∷ bs)
    ≡ (if is_in White b then drop (run White bs) bs else b ∷ bs)
skipped b bs = grind arith

-- ## Nothing but dots, and white space behind them

all-white : (bytes : List ℕ) → pointwise nat_eq (single_blanks bytes) [] ≡ is_white bytes
all-white [] = refl
all-white (b ∷ bs) = grind (arith, all-white bs, nat_eq, eqb-true, eq-eqb, ne_eqb)

dots_of : ℕ → List ℕ
dots_of zero = []
dots_of (suc n) = 46 ∷ dots_of n

dots-white : (n : ℕ) (bytes : List ℕ) → pointwise nat_eq (single_blanks bytes) (dots_of n)
    ≡ (begins_with (dots_of n) bytes && is_white (drop n bytes))
unfolding dots_of
dots-white zero bytes = all-white bytes
dots-white (suc n) [] = refl
dots-white (suc n) (b ∷ bs) = grind (arith, nat_tests, dots-white n bs, nat_eq, eqb-true, eqb-true, and-assoc)

dots-behind : (bytes : List ℕ) → pointwise nat_eq (single_blanks bytes) (46 ∷ 46 ∷ [])
    ≡ (begins_with (46 ∷ 46 ∷ []) bytes && is_white (drop 2 bytes))
unfolding dots_of
dots-behind bytes = dots-white 2 bytes

-- ## Ignored names

ignored-text : (text : List ℕ) → is_void_text text ≡ is_reduced_void (reduced text)
ignored-text [] = refl
ignored-text (b ∷ bs) =
    grind (arith, nat_tests, ignored-text bs, skipped, first-blank, ne_eqb, and-assoc, dots-behind, nat_eq, eqb-true)

-- the name of a token, by its reduced text
pub naming-reduced : (kind : TokKind) (token text : List ℕ) → text ≡ name_text token
    → naming_by (is_reduced_void text) kind text ≡ naming kind token
naming-reduced kind token text is = grind (arith, ignored-text)
