-- `end`: answers on its ways; said here, so that a wrong one fails at once.
use Rattle.std.proofs.Common.{rules}
use Rattle.cw_run.proofs.program.end.Goals as goal

pub returns-in-Done-clause-whole : goal.returns-in-Done-clause-whole
returns-in-Done-clause-whole g c = search rules

pub returns-in-Done-clause-fault : goal.returns-in-Done-clause-fault
returns-in-Done-clause-fault g c = search rules

pub returns-in-Failed-clause-whole : goal.returns-in-Failed-clause-whole
returns-in-Failed-clause-whole g c = search rules
