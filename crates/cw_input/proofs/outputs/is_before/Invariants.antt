-- None of the names so far is this one, so those that are left decide.
use Rattle.std.proofs.Common.{◌≡◌, take, drop}
use Rattle.cw_input.specs.Overwriting.{is_among}
use Rattle.cw_input.proofs.outputs.is_before.Given as goal

abbrev pub invariant-loop-number : goal.invariant-loop-number
invariant-loop-number l = is_among (drop l.number (take l.count l.names)) l.name ≡ is_among (take l.count l.names)
    l.name
