-- The first name that has the text as its whole is the earliest among those near it.
use Rattle.cw_secnames.proofs.sec_names.SecNames.with_text.Goals as goal

pub returns-clause-value : goal.returns-clause-value
returns-clause-value c = c.earliest.ensures.value
