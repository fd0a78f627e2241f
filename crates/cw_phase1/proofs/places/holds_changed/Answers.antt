-- A line behind the part ends the search, a changed one that reaches into it decides, and any other is passed.
use Rattle.cw_phase1.proofs.Terms.{◌≡◌, ◌+◌, ◌<◌, ◌∙◌, sym, ap, arith, false, [], length, drop, zero-add, MergedLine}
use Rattle.cw_phase1.proofs.Terms.{nowhere, holds_changed, offset}
use Rattle.cw_phase1.proofs.PlaceLaws.{changed-skip, changed-behind, changed-hit, changed-plain, changed-before}
use Rattle.cw_phase1.proofs.places.holds_changed.Goals.{else-line-via-then-line+else-start-line}
use Rattle.cw_phase1.proofs.places.holds_changed.Goals.{else-line-via-else-line}
use Rattle.cw_phase1.proofs.places.holds_changed.Goals as goal

abbrev blank : MergedLine
blank = record { text = []; place = nowhere; changed = false }

pub loop-i-init : goal.loop-i-init
loop-i-init c =
    let lines = c.args.web.now.lines in
    let i = c.line_at-i.result in
    let inside : i < length lines = c.line_at-i.ensures.within in
    record {
      within = omega arith;
      rest = ap (λ n. holds_changed (drop i lines) n c.args.start c.args.«end») (sym (zero-add (offset lines i)))
          ∙ sym (changed-skip lines 0 i c.args.start c.args.«end» (omega arith) (grind arith));
    }

pub returns-then-line-end : goal.returns-then-line-end
returns-then-line-end c = let lines = c.args.web.now.lines in let i = c.loop-i.i in sym (grind (arith, changed-behind))

pub returns-then-start-line : goal.returns-then-start-line
returns-then-start-line c =
    let lines = c.args.web.now.lines in
    let i = c.loop-i.i in
    sym (sym c.loop-i.invariant.rest ∙ changed-hit lines i c.args.start c.args.«end»
    blank (grind arith) (sym (c.line_of-line.ensures.changed blank) ∙ c.if-line.true) (grind arith) (grind arith))

pub loop-i-preserved : goal.loop-i-preserved
loop-i-preserved c =
    let lines = c.args.web.now.lines in
    let i = c.loop-i.i in
    let count : c.line_count-in-loop-i.result ≡ length lines = c.line_count-in-loop-i.ensures in
    let test : i < c.line_count-in-loop-i.result = c.loop-i-test.true in
    let inside : i < length lines = omega arith in
    record {
      within = omega arith;
      rest = elim c.else-line.branch [
        | else-line-via-then-line+else-start-line w ↦
            sym (changed-before lines i c.args.start c.args.«end» blank inside (grind arith)) ∙ c.loop-i.invariant.rest
        | else-line-via-else-line w ↦ sym (changed-plain lines i c.args.start c.args.«end»
            blank inside (sym (c.line_of-line.ensures.changed blank) ∙ w.if-line.false)) ∙ c.loop-i.invariant.rest
      ];
    }
