-- There are as many sections as before.
use Rattle.cw_phase1.proofs.Terms.{ap, arith, length}
use Rattle.cw_phase1.proofs.ChangedLaws.{length-marked}
use Rattle.cw_phase1.proofs.book.Outline.mark_last.Goals as goal

pub invariant_of-self : goal.invariant_of-self
invariant_of-self c =
    omega (arith, ap length c.mark_last.ensures, length-marked c.self.inside.sections, c.self.invariant)
