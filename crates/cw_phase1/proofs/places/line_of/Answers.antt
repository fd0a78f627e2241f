-- What the table says of a line is where its text begins and ends, its place, and whether it was changed.
use Rattle.cw_phase1.proofs.Terms.{◌≡◌, ◌+◌, ap, ◌∙◌, false, [], get_or, zero-add, arith, MergedLine, info_from}
use Rattle.cw_phase1.proofs.Terms.{LineInfo, offset}
use Rattle.cw_phase1.proofs.PlaceLaws.{info-at}
use Rattle.cw_phase1.proofs.places.line_of.Goals as goal

info-is : (c : goal.After-line) (none : MergedLine) → c.line.result
    ≡ info_from (0 + offset c.args.web.now.lines c.args.i) (get_or c.args.web.now.lines c.args.i none)
info-is c none = c.line.ensures.info _ ∙ info-at c.args.web.now.lines 0 c.args.i c.line.result none c.requires

abbrev blank : MergedLine
blank = record { text = []; place = record { file = 0; line = 0 }; changed = false }

pub returns-clause-start : goal.returns-clause-start
returns-clause-start c = ap (λ (info : LineInfo). info.start) (info-is c blank) ∙ zero-add _

pub returns-clause-ends : goal.returns-clause-ends
returns-clause-ends c = grind (arith, info-is, zero-add)

pub returns-clause-place : goal.returns-clause-place
returns-clause-place c = λ none. ap (λ (info : LineInfo). info.place) (info-is c none)

pub returns-clause-changed : goal.returns-clause-changed
returns-clause-changed c = λ none. ap (λ (info : LineInfo). info.changed) (info-is c none)
