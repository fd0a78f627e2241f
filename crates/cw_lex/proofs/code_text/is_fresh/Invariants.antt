-- Only blanks were passed so far: what stands before them decides.
use Rattle.std.proofs.Common.{◌≡◌, ◌≤◌, length}
use Rattle.cw_lex.specs.Lexing.{fresh_at}
use Rattle.cw_lex.proofs.code_text.is_fresh.Given as goal

abbrev pub invariant-loop-k : goal.invariant-loop-k
invariant-loop-k l = record { within : l.k ≤ length l.text; value : fresh_at l.text l.k ≡ fresh_at l.text l.at }

abbrev pub decreases-loop-k : goal.decreases-loop-k
decreases-loop-k l = l.k
