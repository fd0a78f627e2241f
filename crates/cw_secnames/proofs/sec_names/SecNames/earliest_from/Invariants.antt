-- What is least so far is the least position of a name that passes, among the positions so far.
use Rattle.std.proofs.Common.{◌≡◌, None, take}
use Rattle.cw_secnames.specs.model.Asked.{least_of, passes}
use Rattle.cw_secnames.proofs.sec_names.SecNames.earliest_from.Given as goal

abbrev pub invariant-loop-index : goal.invariant-loop-index
invariant-loop-index l = l.least ≡ least_of (passes l.asked l.text) l.self l.from None (take l.index-index l.near)
