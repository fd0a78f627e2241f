-- A name in memory gets the text as the name in the list.
use Rattle.std.proofs.Common.{arith}
use Rattle.cw_secnames.proofs.{NamedMarks.named-more, NamedMarks.named-set, Nearest.marked-as, Nearest.same-kind}
use Rattle.cw_secnames.proofs.References.{ascending-at, ascending-set}
use Rattle.cw_secnames.proofs.Finding.{with_text-map, length-with_text, length-named}
use Rattle.cw_secnames.proofs.sec_names.SecNames.set_text.Goals as goal

pub returns-clause-ok : goal.returns-clause-ok
returns-clause-ok c = grind (arith, with_text-map)

pub returns-clause-len : goal.returns-clause-len
returns-clause-len c = grind (arith, returns-clause-ok, length-with_text)

pub invariant_of-self : goal.invariant_of-self
invariant_of-self c = grind (arith, named-more)

pub invariant_of-self-in_err-text : goal.invariant_of-self-in_err-text
invariant_of-self-in_err-text c = grind (arith, named-more)

pub invariant_of-self-2 : goal.invariant_of-self-2
invariant_of-self-2 c =
    grind (arith, length-named, named-set, named-more, marked-as, same-kind, ascending-set, ascending-at)
