-- Which bytes the lines of a log lack.
use Rattle.cw_logs.proofs.Terms.{◌≡◌, ℕ, suc, ◌<◌, ◌≤◌, ◌^◌, Bool, true, false, not, ◌&&◌, List, [], ◌∷◌, ◌++◌, eqb}
use Rattle.cw_logs.proofs.Terms.{All, refl, sym, ◌∙◌, ap, arith, ◌||◌, flat_map, list_all, decimal}
use Rattle.cw_logs.proofs.Terms.{decimal_is_IsNumeral, eqb_tells, both-left, both-right, Cat, Line, Production}
use Rattle.cw_logs.proofs.Terms.{cat_text, blank_and, line_text, head_text, item_text, greatest, is_identifier}
use Rattle.cw_logs.proofs.Terms.{IsFineLine, IsFineItem, lacks, is_digit, is_letter, is_in}
use Rattle.std.specs.{Str.Parse.AllDigits, Char.digit_value}
use Rattle.std.proofs.lemmas.List.Folds.{list_all-append}
use Rattle.cw_rules.specs.declared.classes.Class.TheVariants as classes

pub and-both : (a b : Bool) → a ≡ true → b ≡ true → (a && b) ≡ true
and-both a b h k = ap (λ x. x && b) h ∙ k

pub lacks-append : (n : ℕ) (xs ys : List ℕ) → lacks n xs ≡ true → lacks n ys ≡ true → lacks n (xs ++ ys) ≡ true
lacks-append n xs ys h k = list_all-append (λ b. not (eqb b n)) xs ys ∙ (ap (λ b. b && lacks n ys) h ∙ k)

pub differs : (c n : ℕ) → (c ≡ n → ⊥) → not (eqb c n) ≡ true
differs c n h = grind (arith, eqb_tells)

digits-lack : (n : ℕ) → (digit_value n < 10 → ⊥) → (ds : List ℕ) → AllDigits 10 ds → lacks n ds ≡ true
digits-lack n h [] all = refl
digits-lack n h (c ∷ cs) all = grind (arith, digits-lack n h cs all.1, and-both, differs)

pub decimal-lacks : (n m : ℕ) → (digit_value n < 10 → ⊥) → m < 2 ^ 64 → lacks n (decimal m) ≡ true
decimal-lacks n m h lt = digits-lack n h (decimal m) (decimal_is_IsNumeral m lt).0.1

pub no-blank : digit_value 32 < 10 → ⊥
no-blank h = omega (arith, h)

pub no-end : digit_value 10 < 10 → ⊥
no-end h = omega (arith, h)

pub cat-blank : (c : Cat) → lacks 32 (cat_text c) ≡ true
cat-blank c = grind arith

pub cat-end : (c : Cat) → lacks 10 (cat_text c) ≡ true
cat-end c = grind arith

-- an identifier has neither
abbrev pub is_word : ℕ → Bool
is_word = is_in classes.Word

word-lacks : (n c : ℕ) → is_word n ≡ false → is_word c ≡ true → not (eqb c n) ≡ true
word-lacks n c none some = differs c n (λ e. let k : true ≡ false = sym some ∙ (ap is_word e ∙ none) in cc)

pub letter-word : (c : ℕ) → is_letter c ≡ true → is_word c ≡ true
letter-word c h = ap (λ b. b || is_digit c) h

words-lack : (n : ℕ) → is_word n ≡ false → (cs : List ℕ) → list_all is_word cs ≡ true → lacks n cs ≡ true
words-lack n none [] all = refl
words-lack n none (c ∷ cs) all = and-both (not (eqb c n)) _ (word-lacks n c none (both-left (is_word c) _ all))
    (words-lack n none cs (both-right (is_word c) _ all))

pub name-lacks : (n : ℕ) → is_word n ≡ false → (name : List ℕ) → is_identifier name ≡ true → lacks n name ≡ true
name-lacks n none name h = grind (arith, and-both, word-lacks, letter-word, both-left, words-lack, both-right)

names-end : (names : List (List ℕ)) → All (λ name. is_identifier name ≡ true) names
    → lacks 10 (flat_map blank_and names) ≡ true
names-end [] all = refl
names-end (name ∷ names) all = lacks-append 10 (blank_and name) (flat_map blank_and names)
    (name-lacks 10 refl name (all 0 name (omega arith))) (names-end names (λ i d lt. all (suc i) d (omega arith)))

pub line-end : (l : Line) → IsFineLine l → lacks 10 (line_text l) ≡ true
line-end l fine = grind (arith, and-both, lacks-append, cat-end, names-end)

pub head-end : (n : ℕ) → n ≤ greatest → lacks 10 (head_text n) ≡ true
head-end n most = decimal-lacks 10 n no-end (omega (arith, most))

pub item-end : (p : Production) → IsFineItem p → lacks 10 (item_text p) ≡ true
item-end p fine = grind (arith, lacks-append, decimal-lacks, no-end)
