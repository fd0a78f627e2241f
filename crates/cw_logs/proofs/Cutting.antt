-- The lines of a log's text are its lines.
use Rattle.cw_logs.proofs.Terms.{◌≡◌, ℕ, zero, suc, true, not, eqb, List, [], ◌∷◌, ◌++◌, map, All, refl, ◌∙◌, ap}
use Rattle.cw_logs.proofs.Terms.{arith, flat_map, append_assoc, pieces_of, both-left, both-right, Block, block_lines}
use Rattle.cw_logs.proofs.Terms.{log_lines, ended, IsFineBlock, lacks, TextHasLines}
use Rattle.cw_logs.proofs.Plain.{line-end, head-end, item-end}

-- a line and its end are a piece
pub one-cut : (line rest : List ℕ) → lacks 10 line ≡ true → pieces_of (line ++ 10 ∷ rest) ≡ line ∷ pieces_of rest
one-cut [] rest h = refl
one-cut (c ∷ cs) rest h = grind (arith, one-cut cs rest (both-right (not (eqb c 10)) _ h), both-right, both-left)

all-cut : (lines : List (List ℕ)) → All (λ line. lacks 10 line ≡ true) lines → pieces_of (flat_map ended lines) ≡ lines
all-cut [] all = refl
all-cut (line ∷ lines) all = ap pieces_of (append_assoc line _ (flat_map ended lines)) ∙ (one-cut line (flat_map ended
    lines) (all 0 line (omega arith)) ∙ ap (λ ls. line ∷ ls) (all-cut lines (λ i d lt. all (suc i) d (omega arith))))

pub all-cons : {A : Type 0} (P : A → Type 0) (x : A) (xs : List A) → P x → All P xs → All P (x ∷ xs)
all-cons P x xs p all h d lt = grind arith

pub all-append : {A : Type 0} (P : A → Type 0) (xs ys : List A) → All P xs → All P ys → All P (xs ++ ys)
all-append P [] ys h k = k
all-append P (x ∷ xs) ys h k =
    all-cons P x (xs ++ ys) (h zero x (omega arith)) (all-append P xs ys (λ j e l. h (suc j) e (omega arith)) k)

all-of : {A B : Type 0} (P : B → Type 0) (Q : A → Type 0) (f : A → B) → ((x : A) → Q x → P (f x)) → (xs : List A)
    → All Q xs → All P (map f xs)
all-of P Q f h [] all i d lt = absurd (omega arith)
all-of P Q f h (x ∷ xs) all zero d lt = h x (all 0 x (omega arith))
all-of P Q f h (x ∷ xs) all (suc i) d lt = all-of P Q f h xs (λ j e l. all (suc j) e (omega arith)) i d (omega arith)

abbrev IsOne : List ℕ → Type 0
IsOne line = lacks 10 line ≡ true

block-ends : (b : Block) → IsFineBlock b → All IsOne (block_lines b)
block-ends b fine = all-cons IsOne _ _ (head-end _ fine.few) (all-append IsOne (map _ _) _ (all-of IsOne _
    _ line-end _ fine.leaves) (all-append IsOne _ _ (all-of IsOne _ _ item-end _ fine.items) (grind (arith, all-cons))))

log-ends : (bs : List Block) → All IsFineBlock bs → All IsOne (log_lines bs)
log-ends [] all = λ i d lt. absurd (omega arith)
log-ends (b ∷ bs) all = all-append IsOne (block_lines b) (log_lines bs) (block-ends b (all 0 b (omega arith)))
    (log-ends bs (λ i d lt. all (suc i) d (omega arith)))

pub text-has-lines : TextHasLines
text-has-lines blocks all = all-cut (log_lines blocks) (log-ends blocks all)
