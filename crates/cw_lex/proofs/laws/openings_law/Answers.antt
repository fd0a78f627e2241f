-- A text ends before the code of a section or of another part, and goes on from there as a scan of that part.
use Rattle.cw_lex.proofs.Openings.{ends-at-sections, ends-at-openings}
use Rattle.cw_lex.proofs.laws.openings_law.Goals as goal

pub returns-clause-sections : goal.returns-clause-sections
returns-clause-sections c = ends-at-sections

pub returns-clause-openings : goal.returns-clause-openings
returns-clause-openings c = ends-at-openings
