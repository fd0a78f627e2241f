-- Which rows reserve and which set bold, by computation.
use Rattle.cw_table.proofs.Terms.{refl}
use Rattle.cw_table.specs.Productions.{productions}
use Rattle.cw_table.proofs.laws.reserving_law.Goals as goal

pub returns-clause-one : goal.returns-clause-one
unfolding productions
returns-clause-one c = refl

pub returns-clause-bold : goal.returns-clause-bold
unfolding productions
returns-clause-bold c = refl
