-- The status of a process for each way in which a run ends.
use Rattle.std.specs.Prelude.{ℕ}
use Rattle.cw_base.specs.declared.exit.Exit.{Exit}
use Rattle.cw_base.specs.declared.exit.Exit.TheVariants.{Clean, Errors, Fault, Memory}

abbrev pub code_of : Exit → ℕ
code_of Clean = 0
code_of Errors = 1
code_of Fault = 2
code_of Memory = 3
