-- The names so far are whole.
use Rattle.cw_index.proofs.Terms.{All, take, IsWholeName}
use Rattle.cw_index.proofs.whole.are_whole.Given as goal

abbrev pub invariant-loop-one : goal.invariant-loop-one
invariant-loop-one l = All (IsWholeName l.text) (take l.one-index l.listed)
