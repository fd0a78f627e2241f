-- A sign tells nothing of words and names.
use Rattle.cw_phase1.proofs.Terms.{arith, seen}
use Rattle.cw_phase1.proofs.FreeTokens.{silent-step, stays-held}
use Rattle.cw_phase1.specs.declared.roles.Role.TheVariants as roles
use Rattle.cw_phase1.proofs.pass_state.PassState.free_sign.Goals as goal

pub returns-clause-held : goal.returns-clause-held
returns-clause-held c = λ lines. stays-held roles.Plain lines c.args.self.now (seen c.args.token)
    c.tell_plain.new.self (grind (arith, silent-step)) c.requires.waits (c.tell_plain.ensures.told lines)
