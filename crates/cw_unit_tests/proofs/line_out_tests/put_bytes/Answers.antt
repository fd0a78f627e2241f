-- What is written keeps the output writable.
use Rattle.cw_lines.specs.laws.WritesLaws.{can-after}
use Rattle.cw_unit_tests.proofs.line_out_tests.put_bytes.Goals as goal

pub returns : goal.returns
returns c = record { again = can-after c.requires.can c.in_ok-put_all.ensures.puts }
