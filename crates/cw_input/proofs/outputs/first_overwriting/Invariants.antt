-- None of the outputs so far overwrites anything, so those that are left decide, with those before them taken.
use Rattle.std.proofs.Common.{◌≡◌, drop}
use Rattle.cw_input.specs.Overwriting.{first_overwriting}
use Rattle.cw_input.proofs.OutputLaws.{taken_after}
use Rattle.cw_input.proofs.outputs.first_overwriting.Given as goal

abbrev pub invariant-loop-number : goal.invariant-loop-number
invariant-loop-number l = first_overwriting (taken_after l.number l.web.files l.outputs) (drop l.number l.outputs)
    ≡ first_overwriting l.web.files l.outputs
