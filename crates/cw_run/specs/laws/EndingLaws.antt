-- What a run has done is its outcome under the status that it ends with.
use Rattle.std.specs.Prelude.{◌≡◌, ◌≢◌, Result, Ok, Err, IfOk}
use Rattle.std.proofs.Common.{refl, sym}
use Rattle.cw_base.specs.declared.exit.Exit.{Exit}
use Rattle.cw_base.specs.declared.exit.Exit.TheVariants as exits
use Rattle.cw_desk.specs.laws.JournalLaws.{part-all}
use Rattle.cw_desk.specs.Meaning.{Rose}
use Rattle.cw_desk.specs.State.{DeskState}
use Rattle.cw_lines.specs.declared.put_error.PutError.{PutError}
use Rattle.cw_lines.specs.declared.put_error.PutError.TheVariants.{Fault, Memory}
use Rattle.cw_run.specs.Emits.{Faults, Run, Runs}
use Rattle.cw_run.specs.model.Ending.{status_of}
use Rattle.cw_run.specs.Program.{Outcome}

pub outcome-of : (run : Run) (a b : DeskState) (result : Result Exit PutError) → Runs run a b result
    → Outcome run a.journal b.journal (status_of result)
outcome-of run a b (Ok exits.Clean) runs = (runs.emits.ok, sym runs.exit)
outcome-of run a b (Ok exits.Errors) runs = (runs.emits.ok, sym runs.exit)
outcome-of run a b (Ok exits.Fault) runs = part-all a.journal run.rest runs.emits.ok
outcome-of run a b (Ok exits.Memory) runs = part-all a.journal run.rest runs.emits.ok
outcome-of run a b (Err Fault) runs = runs.emits.err
outcome-of run a b (Err Memory) runs = runs.emits.err

-- A run that doesn't end with a fault of its own ends with one only where the count of faults rose.
pub fault-rose : (a b : DeskState) (result : Result Exit PutError) → Faults a b result
    → IfOk result (λ exit. exit ≢ exits.Fault) → status_of result ≡ exits.Fault → Rose a.faults b.faults
fault-rose a b (Ok exit) faults real is = absurd (real is)
fault-rose a b (Err Fault) faults real is = faults.fault refl
fault-rose a b (Err Memory) faults real is = absurd cc
