-- Where a word, a line and a name end.
use Rattle.cw_logs.proofs.Terms.{◌≡◌, ◌≢◌, ℕ, zero, suc, ◌+◌, ◌<◌, ◌≤◌, Bool, true, false, not, eqb, List, [], ◌∷◌}
use Rattle.cw_logs.proofs.Terms.{◌++◌, length, take, drop, get_or, refl, sym, ◌∙◌, ap, arith, subst, drop-cons}
use Rattle.cw_logs.proofs.Terms.{length-drop, if◌then◌else◌, list_all, take-append-drop, drop-append_seam, pieces_of}
use Rattle.cw_logs.proofs.Terms.{both-left, both-right, is_in, is_letter, run, is_identifier, lacks, IsBlanked}
use Rattle.cw_logs.proofs.Terms.{nothing, something, IsCut, HasName, NoName, IsFirstLine}
use Rattle.cw_logs.proofs.{Plain.and-both, Plain.letter-word, Cutting.one-cut}
use Rattle.cw_rules.specs.declared.classes.Class.TheVariants as classes

-- ## Up to a byte

fails-by : (b : Bool) → (b ≡ true → ⊥) → not b ≡ true
fails-by b h = grind arith

lacks-before : (byte : ℕ) (text : List ℕ) (n : ℕ) → n ≤ length text
    → ((k : ℕ) → k < n → eqb (get_or text k 0) byte ≡ true → ⊥) → lacks byte (take n text) ≡ true
lacks-before byte text zero within none = refl
lacks-before byte [] (suc n) within none = absurd (omega (arith, within))
lacks-before byte (c ∷ cs) (suc n) within none = and-both _ _ (fails-by (eqb c byte) (none 0 (omega arith)))
    (lacks-before byte cs n (omega (arith, within)) (λ k below. none (suc k) (omega (arith, below))))

lacks-all : (byte : ℕ) (text : List ℕ) → ((k : ℕ) → k < length text → eqb (get_or text k 0) byte ≡ true → ⊥)
    → lacks byte text ≡ true
lacks-all byte [] none = refl
lacks-all byte (c ∷ cs) none = and-both (not (eqb c byte)) _ (fails-by (eqb c byte) (none 0 (omega arith)))
    (lacks-all byte cs (λ k below. none (suc k) (omega (arith, below))))

same-byte : (c n : ℕ) → eqb c n ≡ true → c ≡ n
same-byte c n h = grind (arith, h)

parted : (byte : ℕ) (text : List ℕ) (n : ℕ) → n < length text → eqb (get_or text n 0) byte ≡ true
    → take n text ++ byte ∷ drop (n + 1) text ≡ text
parted byte text n within found = grind (arith, same-byte, drop-cons, take-append-drop)

blanked-at : (text : List ℕ) (n : ℕ) → n < length text → eqb (get_or text n 0) 32 ≡ true → IsBlanked (drop n text)
blanked-at text n within found = subst IsBlanked (grind (arith, drop-cons, same-byte)) (something (drop (suc n) text))

pub cut-at : (text : List ℕ) (n : ℕ) → n < length text → ((k : ℕ) → k < n → eqb (get_or text k 0) 32 ≡ true → ⊥)
    → eqb (get_or text n 0) 32 ≡ true → IsCut text (take n text) (drop n text)
cut-at text n within none found = grind (arith, take-append-drop, lacks-before, blanked-at)

pub cut-nowhere : (text : List ℕ) → ((k : ℕ) → k < length text → eqb (get_or text k 0) 32 ≡ true → ⊥)
    → IsCut text text []
cut-nowhere text none = record {
  is = sym (append-none text);
  plain = lacks-all 32 text none;
  blanked = nothing;
}
  where
    append-none : (xs : List ℕ) → xs ++ [] ≡ xs
    append-none [] = refl
    append-none (x ∷ xs) = ap (λ ys. x ∷ ys) (append-none xs)

-- ## Up to the line's end

pub line-at : (text : List ℕ) (n : ℕ) → n < length text → ((k : ℕ) → k < n → eqb (get_or text k 0) 10 ≡ true → ⊥)
    → eqb (get_or text n 0) 10 ≡ true → IsFirstLine text (take n text) (drop (n + 1) text)
line-at text n within none found = record {
  cut = ap pieces_of (sym (parted 10 text n within found))
      ∙ one-cut (take n text) (drop (n + 1) text) (lacks-before 10 text n (omega (arith, within)) none);
  shorter = omega (arith, within, length-drop (n + 1) text);
}

last-piece : (byte : ℕ) (bytes : List ℕ) → lacks 10 (byte ∷ bytes) ≡ true
    → pieces_of (byte ∷ bytes) ≡ (byte ∷ bytes) ∷ []
last-piece byte [] h = grind (arith, both-left)
last-piece byte (c ∷ cs) h = grind (arith, last-piece c cs (both-right (not (eqb byte 10)) _ h), both-right, both-left)

pub line-nowhere : (text : List ℕ) → text ≢ [] → ((k : ℕ) → k < length text → eqb (get_or text k 0) 10 ≡ true → ⊥)
    → IsFirstLine text text []
line-nowhere [] some none = absurd (some refl)
line-nowhere (byte ∷ bytes) some none =
    grind (arith, last-piece byte bytes (lacks-all 10 (byte ∷ bytes) none), lacks-all 10 (byte ∷ bytes) none)

-- ## Names

-- a name runs to the next blank
run-name : (name rest : List ℕ) → list_all (is_in classes.Word) name ≡ true → IsBlanked rest
    → run classes.Word (name ++ rest) ≡ length name
run-name [] [] h b = refl
run-name [] rest h (something bytes) = refl
run-name (c ∷ cs) rest h b =
    grind (arith, run-name cs rest (both-right (is_in classes.Word c) _ h) b, both-left, both-right)

run-all : (bytes : List ℕ) → list_all (is_in classes.Word) (take (run classes.Word bytes) bytes) ≡ true
run-all [] = refl
run-all (c ∷ cs) = go (is_in classes.Word c) refl (run-all cs)
  where
    go : (b : Bool) → is_in classes.Word c ≡ b → list_all (is_in classes.Word) (take (run classes.Word cs) cs) ≡ true
        → list_all (is_in classes.Word) (take (if b then 1 + run classes.Word cs else 0) (c ∷ cs)) ≡ true
    go true e more = let next : 1 + run classes.Word cs ≡ suc (run classes.Word cs) = omega arith in cc
    go false e more = refl

first-fine : (first : ℕ) (more : List ℕ) → is_letter first ≡ true
    → is_identifier (take (run classes.Word (first ∷ more)) (first ∷ more)) ≡ true
first-fine first more h =
    let next : 1 + run classes.Word more ≡ suc (run classes.Word more) = omega arith in
    let many = ap (λ b. if b then 1 + run classes.Word more else 0) (letter-word first h) ∙ next in
    subst (λ n. is_identifier (take n (first ∷ more)) ≡ true) (sym many) (and-both (is_letter first) _ h (run-all more))

tail-of : (a b : ℕ) (xs ys : List ℕ) → ◌≡◌ {A = List ℕ} (a ∷ xs) (b ∷ ys) → xs ≡ ys
tail-of a b xs ys e = cc

pub name-here : (first : ℕ) (more : List ℕ) → is_letter first ≡ true → HasName (32 ∷ first ∷ more)
    (take (run classes.Word (first ∷ more)) (first ∷ more)) (drop (run classes.Word (first ∷ more)) (first ∷ more))
name-here first more h = record {
  is = ap (λ x. 32 ∷ x) (sym (take-append-drop (run classes.Word (first ∷ more)) (first ∷ more)));
  fine = first-fine first more h;
  alone = λ other tail fine blanked is.
      let e = tail-of 32 32 _ _ is in let n : run classes.Word (first ∷ more) ≡ length other =
      ap (run classes.Word) e ∙ run-name other tail (grind (arith, and-both, letter-word, both-left, both-right))
      blanked in sym (ap (λ m. drop m (first ∷ more)) n ∙ (ap (drop (length other)) e ∙ drop-append_seam other tail));
}

pub no-letter : (first : ℕ) (more : List ℕ) → is_letter first ≡ false → NoName (32 ∷ first ∷ more)
no-letter first more h g rest fine blanked is = grind (arith, both-left)

pub no-more : NoName (32 ∷ [])
no-more h rest fine blanked is = grind arith

-- a name at the front of a text, as it is cut off
pub name-cut : (text behind more rest : List ℕ) (blank first size : ℕ) → text ≡ blank ∷ behind → blank ≡ 32
    → behind ≡ first ∷ more → is_letter first ≡ true → size ≡ run classes.Word behind → rest ≡ drop size behind
    → HasName text (take size behind) rest
name-cut text behind more rest blank first size is is_blank is_first letter many is_rest =
    grind (arith, name-here first more letter)
