-- An error in the change file or in the lines of the web is one of the whole.
use Rattle.std.proofs.Common.{Result, arith}
use Rattle.cw_base.specs.Web.{WebState}
use Rattle.cw_input.specs.{model.Answers.LoadsInto, model.Answers.Merges, Merged.Merged}
use Rattle.cw_input.specs.{declared.error.LoadError.LoadError}
use Rattle.cw_input.proofs.loading.merge_both.Goals as goal

loaded : (whole : Merged) (web : WebState) (result : Result (Unit {0}) LoadError) → Merges whole web result
    → LoadsInto whole web result
loaded whole web result merges = grind arith

pub returns-in-Ok-clause-loads : goal.returns-in-Ok-clause-loads
returns-in-Ok-clause-loads g c = grind (arith, loaded)

pub returns-in-Err-clause-loads : goal.returns-in-Err-clause-loads
returns-in-Err-clause-loads g c = grind arith
