-- None of the names so far lacks a definition.
use Rattle.cw_phase1.proofs.Terms.{◌≡◌, drop, list_any, has_no_definition}
use Rattle.cw_phase1.proofs.missing.Search.has_undefined.Given as goal

abbrev pub invariant-loop-k : goal.invariant-loop-k
invariant-loop-k l =
    list_any has_no_definition (drop l.k l.self.names.now) ≡ list_any has_no_definition l.self.names.now
