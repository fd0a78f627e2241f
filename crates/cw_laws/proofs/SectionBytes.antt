-- A section code that isn't `@*` is `@` before white space.
use Rattle.std.proofs.Common.{◌≡◌, ℕ, true, false, ◌==◌, List, arith}
use Rattle.std.proofs.{lemmas.Bool.eqb-true, lemmas.Bool.Decides.nat_tests}
use Rattle.cw_base.{proofs.TestLaws.not-both, specs.Bytes.byte_of}
use Rattle.cw_rules.specs.declared.codes.Code.TheVariants as at
use Rattle.cw_rules.{specs.Bytes.begins, specs.Bytes.star, proofs.Choices.if-both}
use Rattle.cw_rules.specs.Codes.{begins_section, code_at, code_of, is_section}

other-section : (b : ℕ) → (b == byte_of "*") ≡ false → is_section (code_of b) ≡ true → code_of b ≡ at.Section
other-section b star = grind (arith, nat_tests, if-both, not-both)

pub starred-is : (bytes : List ℕ) → begins star bytes ≡ true → code_at bytes ≡ at.StarredSection
starred-is bytes h = grind (arith, nat_tests, eqb-true)

pub section-is : (bytes : List ℕ) → begins_section bytes ≡ true → begins star bytes ≡ false → code_at bytes ≡ at.Section
section-is bytes h k = grind (arith, nat_tests, other-section)
