-- The first name with which the text conflicts is the earliest among those near it.
use Rattle.cw_secnames.proofs.sec_names.SecNames.conflicting.Goals as goal

pub returns-clause-value : goal.returns-clause-value
returns-clause-value c = c.earliest.ensures.value
