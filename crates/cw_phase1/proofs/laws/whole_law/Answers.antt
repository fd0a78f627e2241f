-- The parts of sections are whole, since a text ends where a section or another part begins.
use Rattle.cw_phase1.proofs.WholeSections.{sections-whole}
use Rattle.cw_phase1.proofs.laws.whole_law.Goals as goal

pub returns : goal.returns
returns c = sections-whole c.openings_law.ensures.sections c.openings_law.ensures.openings
