-- The definitions that are still to come are whole where all are, and only there.
use Rattle.cw_part.proofs.Terms.{All, length, definitions_in, IsWholeDefinition}
use Rattle.cw_part.proofs.whole.are_whole.Given as goal

abbrev pub invariant-loop-definition : goal.invariant-loop-definition
invariant-loop-definition l = record {
  whole : All (IsWholeDefinition l.text) l.definitions
      → All (IsWholeDefinition l.text) (definitions_in l.text l.fn.part);
  only : All (IsWholeDefinition l.text) (definitions_in l.text l.fn.part)
      → All (IsWholeDefinition l.text) l.definitions;
}

abbrev pub decreases-loop-definition : goal.decreases-loop-definition
decreases-loop-definition l = length l.definitions
