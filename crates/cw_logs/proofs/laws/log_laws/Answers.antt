-- Reading finds the logs, and their first fault; a log's text tells its blocks.
use Rattle.cw_logs.proofs.{Cutting.text-has-lines, Telling.blocks-are-told, Written.text-is-log}
use Rattle.cw_logs.proofs.{Written.text-tells-blocks}
use Rattle.cw_logs.proofs.StepLaws.{read-is-log, log-is-read, stuck-is-fault, inside-is-fault}
use Rattle.cw_logs.proofs.laws.log_laws.Goals as goal

pub returns-clause-read : goal.returns-clause-read
returns-clause-read c = read-is-log

pub returns-clause-logs : goal.returns-clause-logs
returns-clause-logs c = log-is-read

pub returns-clause-stuck : goal.returns-clause-stuck
returns-clause-stuck c = stuck-is-fault

pub returns-clause-inside : goal.returns-clause-inside
returns-clause-inside c = inside-is-fault

pub returns-clause-lines : goal.returns-clause-lines
returns-clause-lines c = text-has-lines

pub returns-clause-told : goal.returns-clause-told
returns-clause-told c = blocks-are-told

pub returns-clause-text : goal.returns-clause-text
returns-clause-text c = text-is-log

pub returns-clause-alone : goal.returns-clause-alone
returns-clause-alone c = text-tells-blocks
