-- No byte so far is special, so the first that is is looked for behind them.
use Rattle.cw_print.proofs.Terms.{◌≡◌, ◌+◌, drop, position_or_len, is_special}
use Rattle.cw_print.proofs.comments.plain_size.Given as goal

abbrev pub invariant-loop-i : goal.invariant-loop-i
invariant-loop-i l = l.i + position_or_len is_special (drop l.i l.text) ≡ position_or_len is_special l.text
