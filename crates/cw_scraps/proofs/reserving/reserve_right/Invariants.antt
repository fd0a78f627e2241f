-- The scraps from the first place up to this one are turned, with a step for each, and the others stay.
use Rattle.cw_scraps.proofs.Terms.{◌≡◌, ◌+◌, ◌-◌, None, Turns}
use Rattle.cw_scraps.proofs.reserving.reserve_right.Given as goal

abbrev pub invariant-loop-i : goal.invariant-loop-i
invariant-loop-i g l = record {
  turns : Turns l.name l.fn.store.lists l.fn.line l.start l.i l.store.lists l.line;
  idle : l.store.building ≡ None;
  spare : l.store.spare ≡ l.fn.store.spare;
  steps : l.steps ≡ l.fn.steps + (l.i - l.start);
}
