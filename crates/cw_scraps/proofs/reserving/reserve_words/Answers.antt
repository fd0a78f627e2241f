-- Both scraps that a row names, one after the other.
use Rattle.cw_scraps.proofs.Changings.{changes-trans}
use Rattle.cw_scraps.proofs.reserving.reserve_words.Goals as goal

pub returns-clause-lists : goal.returns-clause-lists
returns-clause-lists c = changes-trans _ _ _ _ c.reserve_named-reserved.ensures.lists c.bold_named.ensures.lists
