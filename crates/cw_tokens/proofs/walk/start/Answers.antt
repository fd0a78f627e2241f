-- The first list begins at 0, and each later one where the list before it ends.
use Rattle.cw_tokens.proofs.Cutting.{start_of-first, start_of-later}
use Rattle.cw_tokens.proofs.walk.start.Goals as goal

pub returns-then-list-eq0 : goal.returns-then-list-eq0
returns-then-list-eq0 c = start_of-first _ _ c.if-list-eq0.true

pub returns-else-list-eq0 : goal.returns-else-list-eq0
returns-else-list-eq0 c = start_of-later _ _ c.if-list-eq0.false c.requires
