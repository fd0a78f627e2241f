-- The low line begins at the byte or before it; the high one begins behind it, or is past the last line.
use Rattle.cw_phase1.proofs.Terms.{◌-◌, ◌<◌, ◌≤◌, length, offset}
use Rattle.cw_phase1.proofs.places.line_at.Given as goal

abbrev pub invariant-loop-low : goal.invariant-loop-low
invariant-loop-low l = record {
  order : l.low < l.high;
  within : l.high ≤ length l.web.lines;
  begins : offset l.web.lines l.low ≤ l.byte;
  ends : l.high < length l.web.lines → l.byte < offset l.web.lines l.high;
}

abbrev pub decreases-loop-low : goal.decreases-loop-low
decreases-loop-low l = l.high - l.low
