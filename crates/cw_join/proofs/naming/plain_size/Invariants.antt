-- No byte so far has a backslash, so the first that has one is looked for behind them.
use Rattle.cw_join.proofs.Terms.{◌≡◌, ◌+◌, drop, position_or_len, is_marked}
use Rattle.cw_join.proofs.naming.plain_size.Given as goal

abbrev pub invariant-loop-i : goal.invariant-loop-i
invariant-loop-i l = l.i + position_or_len is_marked (drop l.i l.bytes) ≡ position_or_len is_marked l.bytes
