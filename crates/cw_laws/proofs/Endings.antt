-- Bytes that a line's end ends, and how they are cut.
use Rattle.std.proofs.Common.{◌≡◌, ℕ, ◌==◌, Bool, refl, ap, List, [], ◌∷◌, ◌++◌, append_assoc, inl, inr, arith}
use Rattle.std.proofs.lemmas.List.{append-nil}
use Rattle.std.specs.List.{flat_map}
use Rattle.std.proofs.lemmas.Bool.Decides.{nat_tests}
use Rattle.cw_lines.specs.Cut.{CutLine, TextPieces, cut, cut_behind, split, split_by, written}
use Rattle.cw_laws.specs.Files.{EndInLine, HasLineEnd}

-- ## How they are split

-- there is a piece that a byte 10 ended, and none behind it
pub record AreEnded (pieces : TextPieces) : Type 0 where
  pub first : List ℕ
  pub more : List (List ℕ)
  pub is : pieces ≡ record { ended = first ∷ more; last = [] }

one-more : (byte : ℕ) (pieces : TextPieces) → AreEnded pieces → (t : Bool) → AreEnded (split_by t byte pieces)
one-more byte pieces each t = grind (arith, nat_tests)

pub split-ended : (front : List ℕ) → AreEnded (split (front ++ 10 ∷ []))
split-ended [] = record { first = []; more = []; is = refl }
split-ended (byte ∷ front) = one-more byte (split (front ++ 10 ∷ [])) (split-ended front) (byte == 10)

pub none-pending : (bytes : List ℕ) → EndInLine bytes → (cut bytes).pending ≡ []
unfolding cut_behind
none-pending bytes (inl is) = ap (λ (bytes : List ℕ). (cut bytes).pending) is
none-pending bytes (inr ended) = grind (arith, nat_tests, split-ended ended.0)

-- ## What is put together

pub behind-any : (front bytes : List ℕ) → HasLineEnd bytes → HasLineEnd (front ++ bytes)
behind-any front bytes ended = grind (arith, nat_tests, append_assoc front ended.0 (10 ∷ []))

pub ends-then : (first second : List ℕ) → HasLineEnd first → EndInLine second → HasLineEnd (first ++ second)
ends-then first second one h = grind (arith, nat_tests, behind-any, append-nil)

pub both-end : (first second : List ℕ) → EndInLine first → EndInLine second → EndInLine (first ++ second)
both-end first second h other = grind (arith, nat_tests, ends-then)

pub all-end : {X : Type 0} (print : X → List ℕ) → ((x : X) → EndInLine (print x)) → (xs : List X)
    → EndInLine (flat_map print xs)
all-end print each [] = inl refl
all-end print each (x ∷ xs) = both-end (print x) (flat_map print xs) (each x) (all-end print each xs)

pub lines-end : (lines : List CutLine) → EndInLine (written lines)
lines-end lines = all-end (λ (line : CutLine). line.text ++ 10 ∷ []) (λ line. inr (line.text, refl)) lines
