-- The place of a byte is that of the line which has it.
use Rattle.cw_phase1.proofs.Terms.{◌+◌, ◌≤◌, ◌<◌, ◌∙◌, sym, arith, false, [], MergedLine, nowhere, offset}
use Rattle.cw_phase1.proofs.PlaceLaws.{place-at}
use Rattle.cw_phase1.proofs.places.place_of.Goals as goal

abbrev blank : MergedLine
blank = record { text = []; place = nowhere; changed = false }

pub returns : goal.returns
returns c =
    let lines = c.args.web.now.lines in
    let i = c.line_at.result in
    c.line_of.ensures.place blank ∙ sym (place-at lines 0 c.args.byte i nowhere blank c.line_at.ensures.within
    (let begins : offset lines i ≤ c.args.byte = c.line_at.ensures.begins in omega arith)
    (λ more. let ends : c.args.byte < offset lines (i + 1) = c.line_at.ensures.ends more in omega arith))
