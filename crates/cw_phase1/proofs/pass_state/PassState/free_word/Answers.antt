-- A word in no head is told as it is.
use Rattle.cw_phase1.proofs.Terms.{arith}
use Rattle.std.proofs.lemmas.Result.{on_ok_weaker}
use Rattle.cw_phase1.proofs.FreeTokens.{word-step, stays-held}
use Rattle.cw_phase1.proofs.pass_state.PassState.free_word.Goals as goal

pub returns-clause-held : goal.returns-clause-held
returns-clause-held c =
    λ lines. on_ok_weaker c.tell_word.result (grind (arith, stays-held, word-step)) (c.tell_word.ensures.told lines)
