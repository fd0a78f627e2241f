-- The list of this name gets the section, or stays where memory is wanting; those of other names stay.
use Rattle.cw_names.proofs.Terms.{arith, on_ok_weaker, on_err_weaker, nat_tests}
use Rattle.cw_names.proofs.Mentions.{at-set, at-other, at-read}
use Rattle.cw_names.proofs.xrefs.mention.Goals as goal

pub add-requires : goal.add-requires
add-requires c = grind (arith, nat_tests, at-read)

pub returns-clause-here : goal.returns-clause-here
returns-clause-here c = grind (arith, nat_tests, at-read, on_ok_weaker, at-set)

pub returns-clause-elsewhere : goal.returns-clause-elsewhere
returns-clause-elsewhere c = λ other differ. at-other c.args.lists.now.items c.add.new.list c.args.name other differ

pub returns-clause-err : goal.returns-clause-err
returns-clause-err c = grind (arith, nat_tests, at-read, on_err_weaker, at-set)
