-- What is found, of one byte more at a time.
use Rattle.cw_secnames.proofs.Marked.{found-first, found-next, found-end}
use Rattle.std.proofs.Common.{◌≡◌, sym, subst, true}
use Rattle.cw_secnames.specs.Marks.{is_one_of}
use Rattle.cw_secnames.proofs.marks.Marks.near.Goals as goal

pub loop-count-init : goal.loop-count-init
loop-count-init c = found-first _ _ _ _ _ _ c.first_mark-mark.ensures c.first_mark-mark.ensures

pub loop-count-preserved : goal.loop-count-preserved
loop-count-preserved c = found-next _ _ _ _ _ _ _ _ 0 _ _ c.loop-count.invariant c.loop-count-test.true
    c.next_mark-mark.ensures c.last_kept-start.ensures c.in_ok-add_wholes.ensures

pub returns : goal.returns
returns c = λ other k marked near. subst (λ all. is_one_of k all ≡ true) (sym c.in_ok-add_to.ensures)
    (found-end _ _ _ other _ _ _ k _ c.loop-count.invariant c.loop-count-test.false marked near)
