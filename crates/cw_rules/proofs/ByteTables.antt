-- Which bytes are letters and digits, which are white, and which are plain, by the tables of the code.
use Rattle.std.proofs.Common.{◌≡◌, ℕ, ◌<◌, Bool, map, get_or, refl, ap, ◌∙◌, arith}
use Rattle.std.specs.List.{range_with_len}
use Rattle.std.proofs.{lemmas.List.FromFn.get_or-map-range_with_len, lemmas.Bool.Decides.nat_tests}
use Rattle.cw_rules.specs.{declared.bodies.TheConstants.PLAIN_BYTES, Bodies.is_plain, Bytes.is_in}
use Rattle.cw_rules.specs.declared.classes.Class.TheVariants.{White, Word}
use Rattle.cw_rules.specs.declared.classes.TheConstants.{WHITE_BYTES, WORD_BYTES}

words-are : WORD_BYTES ≡ map (is_in Word) (range_with_len 0 256)
words-are = refl

pub word-at : (b : ℕ) (d : Bool) → b < 256 → get_or WORD_BYTES b d ≡ is_in Word b
word-at b d h = ap (λ bs. get_or bs b d) words-are ∙ get_or-map-range_with_len (is_in Word) 0 256 b b d h (omega arith)

whites-are : WHITE_BYTES ≡ map (is_in White) (range_with_len 0 256)
whites-are = refl

pub white-at : (b : ℕ) (d : Bool) → b < 256 → get_or WHITE_BYTES b d ≡ is_in White b
white-at b d h = grind (arith, nat_tests, get_or-map-range_with_len (is_in White) 0 256 b b d h (omega arith))

plains-are : PLAIN_BYTES ≡ map is_plain (range_with_len 0 256)
plains-are = refl

pub plain-at : (b : ℕ) (d : Bool) → b < 256 → get_or PLAIN_BYTES b d ≡ is_plain b
plain-at b d h = ap (λ bs. get_or bs b d) plains-are ∙ get_or-map-range_with_len is_plain 0 256 b b d h (omega arith)
