-- The new joiner stands for no items.
use Rattle.std.proofs.Common.{[]}
use Rattle.cw_unit_tests.proofs.joiner_tests.push_each.Goals as goal

pub loop-item-init : goal.loop-item-init
loop-item-init c = record { can = c.requires.can; stands = ([], c.new-joiner.ensures.stands) }
