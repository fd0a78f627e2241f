-- What every program over real files has done is handed on.
use Rattle.cw_weave.proofs.weaver.weave_files.Goals as goal

pub returns-clause-some : goal.returns-clause-some
returns-clause-some c = c.run_files.ensures.some
