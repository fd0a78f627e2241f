-- One production keeps the braces.
use Rattle.cw_brace_laws.proofs.Productions.{production-keeps}
use Rattle.cw_brace_laws.proofs.laws.production_law.Goals as goal

pub returns : goal.returns
returns c = production-keeps
