-- The pieces that are taken, usual or other, are those that the flags choose at this place.
use Rattle.cw_scraps.proofs.Terms.{ap, ◌∙◌, drop, pieces_for, takes_other, entry_cats}
use Rattle.cw_scraps.proofs.making.takes_others.Goals as goal

pub returns : goal.returns
returns c = ap (λ b. pieces_for b c.args.row.now) (c.takes_other.ensures ∙ ap
    (λ choice. takes_other c.args.flags.now choice (entry_cats (drop c.args.place c.args.line.now))) c.choice.ensures)
