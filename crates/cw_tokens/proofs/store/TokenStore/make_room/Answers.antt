-- `make_room`: clause `room`; said here, so that a wrong one fails at once.
use Rattle.cw_tokens.proofs.Terms.{arith, common_steps}
use Rattle.cw_tokens.proofs.store.TokenStore.make_room.Goals as goal

pub returns-clause-room : goal.returns-clause-room
returns-clause-room c = grind (arith, common_steps)
