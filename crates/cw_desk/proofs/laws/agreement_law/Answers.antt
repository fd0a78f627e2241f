-- Files agree with what is read off them, and have what was read of them.
use Rattle.cw_desk.proofs.KnownFiles.{some-or-none}
use Rattle.cw_desk.proofs.ReaderLaws.{agree-themselves, missing-there, read-there}
use Rattle.cw_desk.proofs.laws.agreement_law.Goals as goal

pub returns-clause-themselves : goal.returns-clause-themselves
returns-clause-themselves c = agree-themselves

pub returns-clause-read : goal.returns-clause-read
returns-clause-read c = read-there

pub returns-clause-missing : goal.returns-clause-missing
returns-clause-missing c = missing-there

pub returns-clause-some : goal.returns-clause-some
returns-clause-some c = some-or-none
