-- The part is a C text of the web, and what it prints keeps the output writable.
use Rattle.cw_lines.specs.laws.WritesLaws.{can-after}
use Rattle.cw_unit_tests.proofs.list_tests.put_part.Goals as goal

pub print_list-requires-clause-within : goal.print_list-requires-clause-within
print_list-requires-clause-within c = rw c.text-text.ensures.lines c.requires.part.c_text.within

pub print_list-requires-clause-uncut : goal.print_list-requires-clause-uncut
print_list-requires-clause-uncut c = rw c.text-text.ensures.lines c.requires.part.c_text.uncut

pub returns : goal.returns
returns c = record { again = can-after c.requires.can c.in_ok-print_list.ensures.puts }
