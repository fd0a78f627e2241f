-- Prefixes of strings begin with a letter, and a mark stands behind them.
use Rattle.std.proofs.Common.{◌≡◌, ℕ, ◌≤◌, Bool, true, false, ◌&&◌, ◌==◌, nat_lt, List, ◌∷◌, codes, length, slice_index}
use Rattle.std.proofs.Common.{drop, arith}
use Rattle.std.proofs.{lemmas.Bool.eqb-true, lemmas.Bool.Decides.nat_tests}
use Rattle.cw_base.proofs.TestLaws.{both-right}
use Rattle.cw_rules.specs.Bytes.{begins_by, begins_with, is_letter, is_mark}
use Rattle.cw_rules.specs.Prefixes.{is_prefix_letter, prefix_size}

-- a byte that fails a test is none that passes it
pub not-that : (test : ℕ → Bool) (byte wanted : ℕ) → test byte ≡ false → test wanted ≡ true → (byte == wanted) ≡ false
not-that test byte wanted h g = grind (arith, nat_tests, eqb-true)

pub no-prefix : (byte : ℕ) (bytes : List ℕ) → is_letter byte ≡ false → prefix_size (byte ∷ bytes) ≡ 0
no-prefix byte bytes h = grind (arith, nat_tests, not-that)

pub prefix-letter : (byte : ℕ) (bytes : List ℕ) → nat_lt 0 (prefix_size (byte ∷ bytes)) ≡ true → is_letter byte ≡ true
prefix-letter byte bytes h = grind (arith, nat_tests, no-prefix)

-- the two prefixes that a string may have, by their sizes
abbrev has_one : List ℕ → Bool
has_one bytes = begins_by is_prefix_letter bytes && begins_by is_mark (drop 1 bytes)

abbrev has_two : List ℕ → Bool
has_two bytes = begins_with (codes "u8") bytes && begins_by is_mark (drop 2 bytes)

mark-behind-one : (byte : ℕ) (bytes : List ℕ) → begins_by is_mark bytes ≡ true
    → is_mark (slice_index (byte ∷ bytes) 1) ≡ true
mark-behind-one byte x2 h = grind (arith, nat_tests)

mark-behind-two : (byte : ℕ) (bytes : List ℕ) → begins_by is_mark (drop 1 bytes) ≡ true
    → is_mark (slice_index (byte ∷ bytes) 2) ≡ true
mark-behind-two byte x2 h = grind (arith, nat_tests)

pub prefix-mark : (byte : ℕ) (bytes : List ℕ) → nat_lt 0 (prefix_size (byte ∷ bytes)) ≡ true
    → is_mark (slice_index (byte ∷ bytes) (prefix_size (byte ∷ bytes))) ≡ true
prefix-mark byte bytes = grind (arith, nat_tests, mark-behind-one, both-right, mark-behind-two)

some-bytes : (bytes : List ℕ) → begins_by is_mark bytes ≡ true → 1 ≤ length bytes
some-bytes x1 h = grind (arith, nat_tests)

two-bytes : (bytes : List ℕ) → begins_by is_mark (drop 1 bytes) ≡ true → 2 ≤ length bytes
two-bytes x1 h = grind (arith, nat_tests, some-bytes)

pub prefix-below : (byte : ℕ) (bytes : List ℕ) → prefix_size (byte ∷ bytes) ≤ length bytes
prefix-below byte bytes = grind (arith, nat_tests, some-bytes, both-right, two-bytes)
