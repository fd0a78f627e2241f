-- The longest sign of the table is one with which the bytes begin, and none of those is longer.
use Rattle.std.proofs.Common.{◌≡◌, ℕ, ◌≤◌, Bool, true, false, ◌==◌, nat_lt, codes, List, [], ◌∷◌, ◌++◌, Option, Some}
use Rattle.std.proofs.Common.{None, if◌then◌else◌, length, drop, refl, sym, subst, arith}
use Rattle.std.proofs.{lemmas.Bool.eqb-true, lemmas.Bool.Decides.nat_tests}
use Rattle.cw_base.proofs.TestLaws.{both-left, both-right}
use Rattle.cw_rules.specs.{declared.signs.Sign.Sign, Bytes.begins_with, Constants.constant}
use Rattle.cw_rules.specs.Signs.{all_signs, longer, longest, spelling}
use Rattle.cw_rules.proofs.Choices.{if-both}
use Rattle.cw_laws.specs.Longest.{NoneIsLonger, begins_comment, IsSign}
use Rattle.cw_rules.specs.declared.signs.Sign.TheVariants as signs

longer-sizes : (more : List Sign) (bytes : List ℕ) (small large : ℕ) → small ≤ large → NoneIsLonger more bytes small
    → NoneIsLonger more bytes large
longer-sizes [] bytes small large w h = tt
longer-sizes (sign ∷ more) bytes small large w h = grind (arith, nat_tests, longer-sizes more bytes small large w h.1)

abbrev pub size_of : Option Sign → ℕ
size_of None = 0
size_of (Some sign) = length (spelling sign)

-- none is longer than the longest
pub longest-most : (more : List Sign) (bytes : List ℕ) → NoneIsLonger more bytes (size_of (longest more bytes))
longest-most [] bytes = tt
longest-most (sign ∷ more) bytes = by (begins_with (spelling sign) bytes) (longest more bytes) (longest-most more bytes)
  where
    lt-false : (a b : ℕ) → nat_lt a b ≡ false → b ≤ a
    lt-false a b h = grind arith

    lt-true : (a b : ℕ) → nat_lt a b ≡ true → a ≤ b
    lt-true a b h = grind arith

    longer-of : (t : Bool) (other : Sign) → nat_lt (length (spelling other)) (length (spelling sign)) ≡ t → NoneIsLonger
        more bytes (length (spelling other)) → (true ≡ true → length (spelling sign) ≤ size_of
        (if t then Some sign else Some other)) × NoneIsLonger more bytes (size_of (if t then Some sign else Some other))
    longer-of true other e rest = (
      λ k. omega arith,
      longer-sizes more bytes (length (spelling other)) (length (spelling sign))
          (lt-true (length (spelling other)) (length (spelling sign)) e) rest,
    )
    longer-of false other e rest = (λ k. lt-false (length (spelling other)) (length (spelling sign)) e, rest)

    by : (fits : Bool) (o : Option Sign) → NoneIsLonger more bytes (size_of o) → (fits ≡ true → length
        (spelling sign) ≤ size_of (longer fits sign o)) × NoneIsLonger more bytes (size_of (longer fits sign o))
    by fits o rest = grind (arith, nat_tests, longer-sizes, longer-of)

longest-of : (bytes : List ℕ) (sign : Sign) → longest all_signs bytes ≡ Some sign
    → NoneIsLonger all_signs bytes (length (spelling sign))
longest-of bytes sign e = subst (λ o. NoneIsLonger all_signs bytes (size_of o)) e (longest-most all_signs bytes)

-- of a sign, and of none, with which the bytes begin
abbrev pub Fits : List ℕ → Option Sign → Type 0
Fits bytes None = Unit {0}
Fits bytes (Some sign) = begins_with (spelling sign) bytes ≡ true

pub longest-fits : (more : List Sign) (bytes : List ℕ) → Fits bytes (longest more bytes)
longest-fits [] bytes = tt
longest-fits (sign ∷ more) bytes =
    by (begins_with (spelling sign) bytes) (longest more bytes) refl (longest-fits more bytes)
  where
    by : (fits : Bool) (o : Option Sign) → begins_with (spelling sign) bytes ≡ fits → Fits bytes o
        → Fits bytes (longer fits sign o)
    by fits o e h = grind (arith, nat_tests, if-both)

-- the longest of the table, where no constant and no comment begins
pub sign-is : (bytes : List ℕ) (sign : Sign) → longest all_signs bytes ≡ Some sign → constant bytes ≡ 0
    → begins_comment bytes ≡ false → IsSign sign bytes (length (spelling sign))
sign-is bytes sign e c d = record {
  spelt = subst (Fits bytes) e (longest-fits all_signs bytes);
  whole = refl;
  longest = longest-of bytes sign e;
  no_constant = c;
  no_comment = d;
}

begins-all : (wanted bytes : List ℕ) → begins_with wanted bytes ≡ true → bytes ≡ wanted ++ drop (length wanted) bytes
begins-all [] bytes h = refl
begins-all (w ∷ ws) [] h = absurd cc
begins-all (w ∷ ws) (b ∷ bs) h = (λ i. eqb-true b w (both-left (b == w) (begins_with ws bs) h) i ∷ begins-all ws bs
    (both-right (b == w) (begins_with ws bs) h) i)

pub dots-are : (bytes : List ℕ) → begins_with (codes "...") bytes ≡ true → IsSign signs.Ellipsis bytes 3
dots-are bytes h = subst (λ l. IsSign signs.Ellipsis l 3) (sym (begins-all (codes "...") bytes h))
    (sign-is (46 ∷ 46 ∷ 46 ∷ drop 3 bytes) signs.Ellipsis refl refl refl)
