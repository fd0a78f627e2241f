-- Whether the text goes on in its part behind a code.
use Rattle.std.specs.Prelude.{Bool, true, false}
use Rattle.cw_rules.specs.declared.codes.Effect.{Effect}
use Rattle.cw_rules.specs.declared.codes.Effect.TheVariants as effects

abbrev pub stays : Effect → Bool
stays effects.Stands = true
stays (effects.Drops note) = true
stays effect = false
