-- Either translation has as many pieces as the program's data says, and at most twelve.
use Rattle.cw_table.proofs.Terms.{nat_tests, arith}
use Rattle.cw_table.proofs.HandLaws.{other-pieces, usual-pieces}
use Rattle.cw_table.proofs.at_hand.RowAtHand.piece_count.Goals as goal

pub returns-then-other-clause-count : goal.returns-then-other-clause-count
returns-then-other-clause-count c = grind (arith, nat_tests, other-pieces)

pub returns-then-other-clause-twelve : goal.returns-then-other-clause-twelve
returns-then-other-clause-twelve c = (other-pieces c.self.inside.index c.args.other c.args.self.now c.self.invariant
    c.if-other.true c.self.view_is).twelve

pub returns-else-other-clause-count : goal.returns-else-other-clause-count
returns-else-other-clause-count c = grind (arith, nat_tests, usual-pieces)

pub returns-else-other-clause-twelve : goal.returns-else-other-clause-twelve
returns-else-other-clause-twelve c = (usual-pieces c.self.inside.index c.args.other c.args.self.now c.self.invariant
    c.if-other.false c.self.view_is).twelve
