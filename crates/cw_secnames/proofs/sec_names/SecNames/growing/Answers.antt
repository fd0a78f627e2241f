-- The first name that the text is to complete is the earliest among those near it.
use Rattle.cw_secnames.proofs.sec_names.SecNames.growing.Goals as goal

pub returns-clause-value : goal.returns-clause-value
returns-clause-value c = c.earliest.ensures.value
