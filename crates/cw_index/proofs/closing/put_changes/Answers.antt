-- Each changed section goes behind those before it.
use Rattle.cw_index.proofs.Terms.{ℕ, ◌+◌, Bool, false, ap, sym, List, drop, arith, Section, change, changed_from}
use Rattle.cw_index.proofs.Terms.{printing-as, printing-begun}
use Rattle.cw_index.proofs.ClosingLaws.{changes_left, left-behind, left-here, left-later}
use Rattle.cw_index.proofs.PrintingLaws.{printing-end, printing-moved, printing-next, printing-stop}
use Rattle.cw_index.proofs.closing.put_changes.Goals.{then-section+in_ok-put_change, else-section}
use Rattle.cw_index.proofs.closing.put_changes.Goals as goal

pub loop-before-init : goal.loop-before-init
loop-before-init g c = printing-begun _ _ _

pub returns-in_err-put_change : goal.returns-in_err-put_change
returns-in_err-put_change g c =
    let sections : List Section = c.args.book.now.outline.sections in
    let i : ℕ = c.loop-before.before in
    printing-stop (change c.loop-before.first (i + 1)) (changes_left false (changed_from ((i + 1) + 1)
    (drop (i + 1) sections))) (printing-as (left-here c.loop-before.first sections i c.section.result c.section.ensures
    c.if-section.true) c.loop-before.invariant) c.in_err-put_change.ensures c.from_residual.ensures.1

pub loop-before-preserved : goal.loop-before-preserved
loop-before-preserved g c =
    let sections : List Section = c.args.book.now.outline.sections in
    let i : ℕ = c.loop-before.before in
    let later : List ℕ = changed_from ((i + 1) + 1) (drop (i + 1) sections) in
    elim c.if-section.branch [
      | then-section+in_ok-put_change w ↦
          printing-moved w.sheet-is (printing-as (ap (λ (first : Bool). changes_left first later) (sym w.first-is))
          (printing-next (change c.loop-before.first (i + 1)) (changes_left false later)
          (printing-as (left-here c.loop-before.first sections i c.section.result c.section.ensures w.if-section.true)
          c.loop-before.invariant) w.in_ok-put_change.ensures))
      | else-section w ↦
          printing-moved w.sheet-is (printing-as (ap (λ (first : Bool). changes_left first later) (sym w.first-is))
          (printing-as (left-later c.loop-before.first sections i c.section.result c.section.ensures w.if-section.false)
          c.loop-before.invariant))
    ]

pub returns : goal.returns
returns g c = printing-end (left-behind c.loop-before.first c.args.book.now.outline.sections c.loop-before.before
    c.behind_changes.result.now (omega arith) c.behind_changes.ensures) c.loop-before.invariant c.put_all.ensures
