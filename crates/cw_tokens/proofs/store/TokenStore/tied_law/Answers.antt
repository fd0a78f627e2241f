-- The lists that a store keeps refer to earlier ones alone, and to each at most once.
use Rattle.cw_tokens.proofs.Storing.{tied-view}
use Rattle.cw_tokens.proofs.store.TokenStore.tied_law.Goals as goal

pub returns : goal.returns
returns c = tied-view _ _ _ _ _ _ _ _ _ _ c.self.invariant c.self.view_is
