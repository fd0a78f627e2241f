-- The references that are left, added to the names so far, give what all references give.
use Rattle.cw_phase1.proofs.Terms.{◌≡◌, length, drop, map, with_references, referring_of}
use Rattle.cw_phase1.proofs.phase.refer.Given as goal

abbrev pub invariant-loop-reference : goal.invariant-loop-reference
invariant-loop-reference l = record {
  rest : with_references (map referring_of (drop l.reference-index l.reference-items)) l.names
      ≡ with_references (map referring_of l.reference-items) l.fn.names;
  len : length l.names ≡ length l.fn.names;
}
