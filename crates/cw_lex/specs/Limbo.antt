-- What stands in limbo.
use Rattle.std.specs.Prelude.{Bool, true, false}
use Rattle.cw_rules.specs.declared.codes.Code.TheVariants as code
use Rattle.cw_rules.specs.declared.tokens.TokKind.{TokKind}
use Rattle.cw_rules.specs.declared.tokens.TokKind.TheVariants as kind

abbrev pub is_name_kind : TokKind → Bool
is_name_kind (kind.Code code.SectionName) = true
is_name_kind (kind.Code code.FileName) = true
is_name_kind _ = false
