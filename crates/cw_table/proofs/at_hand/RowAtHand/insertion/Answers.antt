-- What is read in the program's data, of either translation, is what the row's piece at that place inserts.
use Rattle.cw_table.proofs.Terms.{arith, nat_tests}
use Rattle.cw_table.proofs.HandLaws.{other-insertion, other-pieces, usual-insertion, usual-pieces}
use Rattle.cw_table.proofs.at_hand.RowAtHand.insertion.Goals as goal

pub offset_bounds-self-inside-i : goal.offset_bounds-self-inside-i
offset_bounds-self-inside-i c = grind (arith, nat_tests, other-pieces)

pub bounds-i : goal.bounds-i
bounds-i c = grind (arith, nat_tests, other-pieces)

pub offset_bounds-self-inside-i-else-other : goal.offset_bounds-self-inside-i-else-other
offset_bounds-self-inside-i-else-other c = grind (arith, nat_tests, usual-pieces)

pub bounds-i-else-other : goal.bounds-i-else-other
bounds-i-else-other c = grind (arith, nat_tests, usual-pieces)

pub returns-then-other : goal.returns-then-other
returns-then-other c = other-insertion c.self.inside.index c.args.i _ _ c.args.other c.args.self.now c.self.invariant
    c.if-other.true c.self.view_is c.requires

pub returns-else-other : goal.returns-else-other
returns-else-other c = usual-insertion c.self.inside.index c.args.i _ _ c.args.other c.args.self.now c.self.invariant
    c.if-other.false c.self.view_is c.requires
