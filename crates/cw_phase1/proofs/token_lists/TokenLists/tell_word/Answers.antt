-- `tell_word`: clause `told`; said here, so that a wrong one fails at once.
use Rattle.cw_phase1.proofs.Terms.{arith, common_steps}
use Rattle.cw_phase1.proofs.token_lists.TokenLists.tell_word.Goals as goal

pub returns-clause-told : goal.returns-clause-told
returns-clause-told c = grind (arith, common_steps)
