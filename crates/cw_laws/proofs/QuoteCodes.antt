-- The byte behind the `@` of a string.
use Rattle.std.proofs.Common.{◌≡◌, ℕ, true, ◌==◌, arith}
use Rattle.std.proofs.lemmas.Bool.Decides.{nat_tests}
use Rattle.cw_rules.specs.{declared.codes.Code.Code, Bytes.apostrophe, Codes.code_of, Tokens.is_quote}
use Rattle.cw_rules.proofs.Choices.{if-both}

abbrev IsQuote : ℕ → Code → Type 0
IsQuote byte code = is_quote code ≡ true → (byte == apostrophe) ≡ true

pub quote-byte : (byte : ℕ) → IsQuote byte (code_of byte)
quote-byte byte = grind (arith, nat_tests, if-both)
