-- The pieces of a name.
use Rattle.cw_join.proofs.Terms.{◌≡◌, ◌≢◌, ℕ, suc, ◌+◌, ◌<◌, eqb, Bool, true, false, not, cond, codes, List, [], ◌∷◌}
use Rattle.cw_join.proofs.Terms.{◌++◌, length, take, drop, refl, sym, ap, subst, ◌∙◌, arith, if◌then◌else◌, list_any}
use Rattle.cw_join.proofs.Terms.{position_or_len, eqb-true, append_assoc, Ok, ⊤, DeskState, Prints, Sheet, ident_bytes}
use Rattle.cw_join.proofs.Terms.{is_lower, long_ident_bytes, name_bytes, BeginsMarked, font_bytes, is_marked}

-- what the walk over a name holds: what is put already, and that a byte with a backslash or the end comes next
pub record PiecesPut {D : Type 0} (told : D → DeskState) (bytes rest : List ℕ) (old new : Sheet D) : Type 0 where
  pub done : List ℕ
  pub put : Prints {T = ⊤} told done old new (Ok (tt {0}))
  pub is : done ++ name_bytes rest ≡ name_bytes bytes
  pub begins : BeginsMarked rest

pub nothing : (xs : List ℕ) → length xs ≡ 0 → [] ≡ xs
nothing [] is = refl
nothing (x ∷ xs) is = absurd (omega arith)

pub some : (xs : List ℕ) → eqb (length xs) 0 ≡ false → 0 < length xs
some [] is = absurd (cc)
some (x ∷ xs) is = omega arith

abbrev plain : List ℕ → ℕ
plain xs = position_or_len is_marked xs

one-add : (n : ℕ) → 1 + n ≡ suc n
one-add n = omega arith

plain-by : (x : ℕ) (xs : List ℕ) (b : Bool) → is_marked x ≡ b → take (plain xs) xs ++ name_bytes (drop (plain xs) xs)
    ≡ name_bytes xs → take (cond (not b) (1 + plain xs) 0) (x ∷ xs)
    ++ name_bytes (drop (cond (not b) (1 + plain xs) 0) (x ∷ xs)) ≡ name_bytes (x ∷ xs)
plain-by x xs true is rest = refl
plain-by x xs false is rest = ap (λ (n : ℕ). take n (x ∷ xs) ++ name_bytes (drop n (x ∷ xs))) (one-add (plain xs))
    ∙ ap (λ (l : List ℕ). x ∷ l) rest ∙ ap (λ (b : Bool). (if b then 92 ∷ x ∷ [] else x ∷ []) ++ name_bytes xs) (sym is)

-- the bytes before the first one with a backslash print as they are
plain-front : (xs : List ℕ) → take (plain xs) xs ++ name_bytes (drop (plain xs) xs) ≡ name_bytes xs
plain-front [] = refl
plain-front (x ∷ xs) = plain-by x xs (is_marked x) refl (plain-front xs)

begins-by : (x : ℕ) (xs : List ℕ) (b : Bool) → is_marked x ≡ b → BeginsMarked (drop (plain xs) xs)
    → BeginsMarked (drop (cond (not b) (1 + plain xs) 0) (x ∷ xs))
begins-by x xs true is rest = is
begins-by x xs false is rest = subst (λ (n : ℕ). BeginsMarked (drop n (x ∷ xs))) (sym (one-add (plain xs))) rest

plain-begins : (xs : List ℕ) → BeginsMarked (drop (plain xs) xs)
plain-begins [] = tt
plain-begins (x ∷ xs) = begins-by x xs (is_marked x) refl (plain-begins xs)

-- the first part of a name and its rest
pub name-parts : (name first rest : List ℕ) (size : ℕ) → size ≡ position_or_len is_marked name → first ≡ take size name
    → rest ≡ drop size name → first ++ name_bytes rest ≡ name_bytes name
name-parts name first rest size is front back = (λ i. front i ++ name_bytes (back i))
    ∙ ap (λ (n : ℕ). take n name ++ name_bytes (drop n name)) is ∙ plain-front name

pub name-begins : (name rest : List ℕ) (size : ℕ) → size ≡ position_or_len is_marked name → rest ≡ drop size name
    → BeginsMarked rest
name-begins name rest size is back = rw ((back ∙ ap (λ (n : ℕ). drop n name) is)) (plain-begins name)

-- a byte with a backslash, and the bytes before the next one
piece-is : (rest : List ℕ) (size : ℕ) → BeginsMarked rest → 0 < length rest → size ≡ 1 + position_or_len is_marked
    (drop 1 rest) → (92 ∷ take size rest) ++ name_bytes (drop size rest) ≡ name_bytes rest
piece-is [] size begins some is = absurd (omega arith)
piece-is (x ∷ xs) size begins some is = ap (λ (n : ℕ). (92 ∷ take n (x ∷ xs)) ++ name_bytes (drop n (x ∷ xs))) (is
    ∙ one-add (plain xs)) ∙ ap (λ (l : List ℕ). 92 ∷ x ∷ l) (plain-front xs)
    ∙ ap (λ (b : Bool). (if b then 92 ∷ x ∷ [] else x ∷ []) ++ name_bytes xs) (sym begins)

pub piece-begins : (rest behind : List ℕ) (size : ℕ) → 0 < length rest
    → size ≡ 1 + position_or_len is_marked (drop 1 rest) → behind ≡ drop size rest → BeginsMarked behind
piece-begins [] behind size some is back = absurd (omega arith)
piece-begins (x ∷ xs) behind size some is back =
    subst BeginsMarked (sym (back ∙ ap (λ (n : ℕ). drop n (x ∷ xs)) (is ∙ one-add (plain xs)))) (plain-begins xs)

-- one piece more
pub pieces-more : (done bytes rest piece behind : List ℕ) (size : ℕ) → done ++ name_bytes rest ≡ name_bytes bytes
    → BeginsMarked rest → 0 < length rest → size ≡ 1 + position_or_len is_marked (drop 1 rest) → piece ≡ take size rest
    → behind ≡ drop size rest → (done ++ (92 ∷ piece)) ++ name_bytes behind ≡ name_bytes bytes
pieces-more done bytes rest piece behind size put begins some is front back =
    (λ i. (done ++ (92 ∷ front i)) ++ name_bytes (back i)) ∙ append_assoc done (92 ∷ take size rest)
    (name_bytes (drop size rest)) ∙ ap (λ (l : List ℕ). done ++ l) (piece-is rest size begins some is) ∙ put

-- the fonts of longer identifiers
long-by : (b : Bool) (name : List ℕ) → (if b then codes "\\\\{" ++ name_bytes name ++ codes "}" else codes "\\.{"
    ++ name_bytes name ++ codes "}") ≡ font_bytes b ++ name_bytes name ++ codes "}"
long-by b name = grind arith

pub ident-long : (name : List ℕ) → length name ≢ 1 → ident_bytes name ≡ font_bytes (list_any is_lower name)
    ++ name_bytes name ++ codes "}"
ident-long name other = go (eqb (length name) 1) refl ∙ long-by (list_any is_lower name) name
  where
    go : (b : Bool) → eqb (length name) 1 ≡ b → (if b then codes "\\|" ++ name_bytes name
        else long_ident_bytes name) ≡ long_ident_bytes name
    go true is = absurd (other (eqb-true (length name) 1 is))
    go false is = refl
