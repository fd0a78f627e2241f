-- A name grows where it is incomplete and shorter, and stays as it is otherwise.
use Rattle.std.proofs.Common.{arith}
use Rattle.cw_secnames.proofs.Finding.{grown-shorter, grown-longer, grown-complete}
use Rattle.cw_secnames.proofs.sec_names.SecNames.grow.Goals.{then-name-via-then-name}
use Rattle.cw_secnames.proofs.sec_names.SecNames.grow.Goals as goal

pub returns-then-name-clause-ok : goal.returns-then-name-clause-ok
returns-then-name-clause-ok c = grind (arith, then-name-via-then-name, grown-complete, grown-longer)

pub returns-clause-ok : goal.returns-clause-ok
returns-clause-ok c = grind (arith, grown-shorter)
