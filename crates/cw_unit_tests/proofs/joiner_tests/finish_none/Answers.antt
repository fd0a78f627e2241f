-- A joiner of no items, when it finishes, leaves the output so that it can be written.
use Rattle.std.proofs.Common.{[]}
use Rattle.cw_lines.specs.laws.WritesLaws.{can-after}
use Rattle.cw_unit_tests.proofs.joiner_tests.finish_none.Goals as goal

pub returns : goal.returns
returns c = record { can = can-after c.requires.can (c.in_ok-finish.ensures.puts [] c.new-joiner.ensures.stands) }
