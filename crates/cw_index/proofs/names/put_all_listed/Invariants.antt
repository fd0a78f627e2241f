-- The names so far are woven.
use Rattle.cw_index.proofs.Terms.{drop, list_setting, all_listed, Weaving, IsSameSheet, lasting, press}
use Rattle.cw_index.proofs.names.put_all_listed.Given as goal

abbrev pub invariant-loop-one : goal.invariant-loop-one
invariant-loop-one g l = let told = g.D.Desk.told in record {
  woven : Weaving (list_setting l.t (lasting l.fn.book)) (all_listed (list_setting l.t (lasting l.fn.book))
      (drop l.one-index l.listed)) (all_listed (list_setting l.t (lasting l.fn.book)) l.listed l.fn.book.names)
      (press told l.fn.book l.fn.sheet l.fn.steps) (press told l.book l.sheet l.steps) l.counts;
  same : IsSameSheet l.fn.sheet l.sheet;
}
