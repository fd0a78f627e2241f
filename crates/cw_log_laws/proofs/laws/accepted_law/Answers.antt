-- Files of right blocks are accepted, and those of webs are such.
use Rattle.cw_log_laws.proofs.{AcceptedLogs.right-accepted, WrittenLogs.commands-accept, WrittenLogs.written-accepted}
use Rattle.cw_log_laws.proofs.laws.accepted_law.Goals as goal

pub returns-clause-right : goal.returns-clause-right
returns-clause-right c = right-accepted

pub returns-clause-written : goal.returns-clause-written
returns-clause-written c = written-accepted

pub returns-clause-command : goal.returns-clause-command
returns-clause-command c = commands-accept
