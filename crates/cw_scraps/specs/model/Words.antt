-- The words of heads.
use Rattle.std.specs.Prelude.{Bool, true, false}
use Rattle.cw_rules.specs.declared.tokens.TokKind.{TokKind}
use Rattle.cw_rules.specs.declared.tokens.TokKind.TheVariants as kind

-- identifiers and signs
abbrev pub is_word : TokKind → Bool
is_word kind.Identifier = true
is_word (kind.Sign s) = true
is_word _ = false
