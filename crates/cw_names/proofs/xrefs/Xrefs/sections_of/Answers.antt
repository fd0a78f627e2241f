-- The list that is lent has the sections that mention the name, ascending; where there is no list none do.
use Rattle.cw_names.proofs.Terms.{sym, subst, arith, AreAscending, nat_tests}
use Rattle.cw_names.proofs.Mentions.{at-read, at-end, mentions-ascending}
use Rattle.cw_names.proofs.xrefs.Xrefs.sections_of.Goals as goal

pub returns-in-Some-clause-value : goal.returns-in-Some-clause-value
returns-in-Some-clause-value c = grind (arith, nat_tests, at-read)

pub returns-in-Some-clause-ascending : goal.returns-in-Some-clause-ascending
returns-in-Some-clause-ascending c =
    subst AreAscending (sym (returns-in-Some-clause-value c)) (mentions-ascending c.args.id.index c.args.self.now)

pub returns-in-None-clause-value : goal.returns-in-None-clause-value
returns-in-None-clause-value c = grind (arith, nat_tests, at-end)
