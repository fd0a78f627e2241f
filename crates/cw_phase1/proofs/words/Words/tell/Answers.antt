-- The second name of a format definition.
use Rattle.cw_phase1.proofs.Terms.{arith, common_steps}
use Rattle.cw_phase1.proofs.NameLaws.{second-told}
use Rattle.cw_phase1.proofs.words.Words.tell.Goals as goal

pub returns-in_ok-second-in-SecondName-clause-told : goal.returns-in_ok-second-in-SecondName-clause-told
returns-in_ok-second-in-SecondName-clause-told c = grind (arith, second-told)

pub returns-in_ok-occur-in-MacroName-clause-told : goal.returns-in_ok-occur-in-MacroName-clause-told
returns-in_ok-occur-in-MacroName-clause-told c = grind (arith, common_steps)
