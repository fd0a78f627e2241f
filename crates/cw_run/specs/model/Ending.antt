-- How a run ends.
use Rattle.std.specs.Prelude.{Result, Ok, Err}
use Rattle.cw_base.specs.declared.exit.Exit.{Exit}
use Rattle.cw_base.specs.declared.exit.Exit.TheVariants as exits
use Rattle.cw_lines.specs.declared.put_error.PutError.{PutError}
use Rattle.cw_lines.specs.declared.put_error.PutError.TheVariants.{Fault, Memory}

-- the status of a run that may have been refused
abbrev pub status_of : Result Exit PutError → Exit
status_of (Ok exit) = exit
status_of (Err Fault) = exits.Fault
status_of (Err Memory) = exits.Memory
