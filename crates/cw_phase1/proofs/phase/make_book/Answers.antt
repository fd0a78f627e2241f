-- The sections of a book, the last one closed, are so few that their number fits in 32 bits.
use Rattle.cw_phase1.proofs.Closings.{few-sections}
use Rattle.cw_phase1.proofs.phase.make_book.Goals as goal

pub invariant_of-result : goal.invariant_of-result
invariant_of-result c = few-sections c.args.web.now.lines _ c.args.held.told.sections c.complete.new.held.told.sections
    c.in-Ok.ensures.sections c.requires.total
