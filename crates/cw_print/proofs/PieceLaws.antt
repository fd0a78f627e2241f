-- Of the pieces of a comment: what was printed, with what is to come.
use Rattle.cw_print.proofs.Terms.{◌≡◌, ℕ, suc, ◌+◌, ◌||◌, Bool, true, false, not, cond, List, [], ◌∷◌, ◌++◌, take, drop}
use Rattle.cw_print.proofs.Terms.{refl, arith, position_or_len, append_assoc, CommentPiece, Prints, byte_piece}
use Rattle.cw_print.proofs.Terms.{comment_piece, is_special, joined_pieces, piece_of}

-- ## Bytes that print themselves

record AreOther (a b c d e : Bool) : Type 0 where
  pub first : a ≡ false
  pub second : b ≡ false
  pub third : c ≡ false
  pub fourth : d ≡ false
  pub fifth : e ≡ false

all-other : (a b c d e : Bool) → (a || (b || (c || (d || e)))) ≡ false → AreOther a b c d e
all-other a b c d e is = grind arith

byte-plain : (byte braces : ℕ) → is_special byte ≡ false → byte_piece byte braces ≡ piece_of (byte ∷ []) braces
byte-plain byte braces is = grind (arith, all-other)

one-plain : (byte : ℕ) (bytes : List ℕ) (braces : ℕ) → is_special byte ≡ false
    → comment_piece (byte ∷ bytes) braces ≡ joined_pieces (piece_of (byte ∷ []) braces) (comment_piece bytes braces)
one-plain byte [] braces is = grind (arith, all-other, byte-plain)
one-plain byte (next ∷ bytes) braces is = grind (arith, all-other, byte-plain)

abbrev plain : List ℕ → ℕ
plain text = position_or_len is_special text

one-add : (n : ℕ) → 1 + n ≡ suc n
one-add n = omega arith

abbrev parted : List ℕ → ℕ → ℕ → CommentPiece
parted text braces n = joined_pieces (piece_of (take n text) braces) (comment_piece (drop n text) braces)

plain-by : (x : ℕ) (xs : List ℕ) (braces : ℕ) (b : Bool) → is_special x ≡ b → comment_piece xs braces ≡ parted xs braces
    (plain xs) → comment_piece (x ∷ xs) braces ≡ parted (x ∷ xs) braces (cond (not b) (1 + plain xs) 0)
plain-by x xs braces true is rest = refl
plain-by x xs braces false is rest = grind (arith, one-plain x xs braces is, one-add (plain xs))

plain-front : (text : List ℕ) (braces : ℕ) → comment_piece text braces ≡ parted text braces (plain text)
plain-front [] braces = refl
plain-front (x ∷ xs) braces = plain-by x xs braces (is_special x) refl (plain-front xs braces)

-- the bytes before the first special one print themselves
pub plain-printed : (begun text first rest : List ℕ) (size : ℕ) → size ≡ position_or_len is_special text
    → first ≡ take size text → rest ≡ drop size text → (out : List ℕ) → out ≡ begun ++ first → (braces : ℕ)
    → Prints begun text braces out rest braces
plain-printed begun text first rest size is front back out appended braces = grind (arith, plain-front, append_assoc)
