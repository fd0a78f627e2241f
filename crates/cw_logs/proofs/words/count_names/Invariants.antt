-- The names before the rest are counted, and whatever names the text is, the rest is those behind them.
use Rattle.cw_logs.proofs.Terms.{◌≡◌, ◌+◌, ◌≤◌, List, ℕ, length, flat_map, blank_and, AreIdentifiers}
use Rattle.cw_logs.proofs.Names.{Counted, Later}
use Rattle.cw_logs.proofs.words.count_names.Given as goal

abbrev pub invariant-loop-rest : goal.invariant-loop-rest
invariant-loop-rest l = record {
  few : l.count + length l.rest ≤ length l.text;
  counted : Counted l.text l.rest l.count;
  later : (names : List (List ℕ)) → AreIdentifiers names → l.text ≡ flat_map blank_and names → Later l.rest;
}

abbrev pub decreases-loop-rest : goal.decreases-loop-rest
decreases-loop-rest l = length l.rest
