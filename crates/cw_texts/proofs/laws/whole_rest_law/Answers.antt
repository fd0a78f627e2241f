-- Behind its TeX part a whole section is whole, since a text ends where another part of it begins.
use Rattle.cw_texts.proofs.WholeDefinitions.{definitions-whole, rests-whole}
use Rattle.cw_texts.proofs.laws.whole_rest_law.Goals as goal

pub returns-clause-definitions : goal.returns-clause-definitions
returns-clause-definitions c = definitions-whole c.openings_law.ensures.openings

pub returns-clause-rests : goal.returns-clause-rests
returns-clause-rests c = rests-whole c.openings_law.ensures.openings
