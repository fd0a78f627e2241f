-- What is appended one thing after another.
use Rattle.cw_logs.proofs.Terms.{◌≡◌, ℕ, zero, suc, ◌<◌, List, [], ◌∷◌, ◌++◌, length, map, take, drop, get_or, refl}
use Rattle.cw_logs.proofs.Terms.{sym, ◌∙◌, ap, append_assoc, arith, subst, Result, IsErr, flat_map, nat_tests}
use Rattle.cw_logs.proofs.Terms.{common_steps, Line, Appends, HasGrown, Block, letter, cat_text, blank_and}
use Rattle.cw_logs.proofs.Terms.{line_text, head_text, item_text, end_text, block_lines, ended}

append-none : (xs : List ℕ) → xs ++ [] ≡ xs
append-none [] = refl
append-none (x ∷ xs) = ap (λ ys. x ∷ ys) (append-none xs)

-- all or nothing
pub nothing-grown : (added old new : List ℕ) → new ≡ old → HasGrown added old new
nothing-grown added old new is = record { some = []; rest = added; all = refl; is = is ∙ sym (append-none old) }

-- ## A call that is refused

pub refused : {A E : Type 0} (first next rest added old mid new : List ℕ) (result : Result A E) → IsErr result
    → mid ≡ old ++ first → HasGrown next mid new → added ≡ first ++ (next ++ rest) → Appends added old new result
refused first next rest added old mid new result h m g is = grind (arith, append_assoc)

-- ## Many of one kind

pub parted-next : {A B : Type 0} (f : A → B) (g : B → List ℕ) (xs : List A) (i : ℕ) (d : A) → i < length xs → flat_map g
    (map f xs) ≡ flat_map g (map f (take i xs)) ++ (g (f (get_or xs i d)) ++ flat_map g (map f (drop (suc i) xs)))
parted-next f g [] i d lt = absurd (omega (arith, lt))
parted-next f g (x ∷ xs) zero d lt = refl
parted-next f g (x ∷ xs) (suc i) d lt = grind (arith, parted-next f g xs i d (omega (arith, lt)), append_assoc)

pub next-refused : {A B C E : Type 0} (f : A → B) (g : B → List ℕ) (xs : List A) (i : ℕ) (d : A) (old mid new : List ℕ)
    (result : Result C E) → i < length xs → IsErr result → mid ≡ old ++ flat_map g (map f (take i xs))
    → HasGrown (g (f (get_or xs i d))) mid new → Appends (flat_map g (map f xs)) old new result
next-refused f g xs i d old mid new result lt err m h = refused _ (g (f (get_or xs i d))) (flat_map
    g (map f (drop (suc i) xs))) (flat_map g (map f xs)) old mid new result err m h (parted-next f g xs i d lt)

-- the same of lines
flat-lines : {B : Type 0} (t : B → List ℕ) (ys : List B) → flat_map ended (map t ys) ≡ flat_map (λ y. ended (t y)) ys
flat-lines t [] = refl
flat-lines t (y ∷ ys) = ap (λ r. ended (t y) ++ r) (flat-lines t ys)

pub line-refused : {A B C E : Type 0} (f : A → B) (t : B → List ℕ) (xs : List A) (i : ℕ) (d : A) (old mid new : List ℕ)
    (result : Result C E) → i < length xs → IsErr result → mid ≡ old ++ flat_map ended (map t (map f (take i xs)))
    → HasGrown (ended (t (f (get_or xs i d)))) mid new → Appends (flat_map ended (map t (map f xs))) old new result
line-refused f t xs i d old mid new result lt err m h = subst (λ added. Appends added old new result) (sym (flat-lines
    t (map f xs))) (next-refused f (λ y. ended (t y)) xs i d old mid new result lt err (grind (arith, flat-lines)) h)

pub same-count : {A B : Type 0} (f : A → B) (xs ys : List A) → xs ≡ ys → length xs ≡ length (map f ys)
same-count {A} {B} f xs ys is = grind (arith, nat_tests, common_steps)

-- the blank is appended, and the name is refused
pub blank-grown : (text old mid new : List ℕ) → mid ≡ old ++ 32 ∷ [] → new ≡ mid → HasGrown (blank_and text) old new
blank-grown text old mid new m n = record { some = 32 ∷ []; rest = text; all = refl; is = n ∙ m }

-- ## A leaf line

pub names-refused : {A E : Type 0} (line : Line) (old once mid new : List ℕ) (result : Result A E) → IsErr result
    → once ≡ old ++ letter line.kind ∷ 32 ∷ [] → mid ≡ once ++ cat_text line.cat
    → HasGrown (flat_map blank_and line.names) mid new → Appends (ended (line_text line)) old new result
names-refused line old once mid new result err o m h = grind (arith, refused, append_assoc)

-- ## A block

lines-append : (xs ys : List (List ℕ)) → flat_map ended (xs ++ ys) ≡ flat_map ended xs ++ flat_map ended ys
lines-append [] ys = refl
lines-append (x ∷ xs) ys = grind (arith, lines-append xs ys, append_assoc)

abbrev pub head_of : Block → List ℕ
head_of b = ended (head_text (length b.leaves))

abbrev pub leaves_of : Block → List ℕ
leaves_of b = flat_map ended (map line_text b.leaves)

abbrev pub items_of : Block → List ℕ
items_of b = flat_map ended (map item_text b.items)

pub head-refused : {A E : Type 0} (b : Block) (old new : List ℕ) (result : Result A E) → IsErr result
    → HasGrown (head_of b) old new → Appends (flat_map ended (block_lines b)) old new result
head-refused b old new result err h = refused [] _ (leaves_of b ++ (items_of b ++ ended end_text)) (flat_map
    ended (block_lines b)) old old new result err (sym (append-none old)) h (grind (arith, lines-append, append-none))

pub leaves-refused : {A E : Type 0} (b : Block) (old mid new : List ℕ) (result : Result A E) → IsErr result
    → mid ≡ old ++ head_of b → HasGrown (leaves_of b) mid new → Appends (flat_map ended (block_lines b)) old new result
leaves-refused b old mid new result err m h = refused _ (leaves_of b) (items_of b ++ ended end_text)
    (flat_map ended (block_lines b)) old mid new result err m h (grind (arith, lines-append, append-none))

pub items-refused : {A E : Type 0} (b : Block) (old once mid new : List ℕ) (result : Result A E) → IsErr result
    → once ≡ old ++ head_of b → mid ≡ once ++ leaves_of b → HasGrown (items_of b) mid new
    → Appends (flat_map ended (block_lines b)) old new result
items-refused b old once mid new result err o m h = grind (arith, refused, append_assoc, lines-append, append-none)
