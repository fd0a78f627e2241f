-- From here on come the answers that came from where the scanner stood.
use Rattle.std.proofs.Common.{◌≡◌, ◌-◌, ◌≤◌, length}
use Rattle.cw_lex.specs.{Lexing.answers_at, model.Coming.where_of}
use Rattle.cw_lex.proofs.code_text.skip_white.Given as goal

abbrev pub invariant-loop-at : goal.invariant-loop-at
invariant-loop-at l = record {
  from : l.state.at ≤ l.at;
  within : l.at ≤ length l.text;
  same : answers_at l.text (where_of l.state) l.at ≡ answers_at l.text (where_of l.state) l.state.at;
}

abbrev pub decreases-loop-at : goal.decreases-loop-at
decreases-loop-at l = length l.text - l.at
