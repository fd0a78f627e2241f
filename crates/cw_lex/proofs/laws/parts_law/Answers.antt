-- A part that ends at a code or with the text is scanned as the whole is there, and so is inner C text up to its bar.
use Rattle.cw_lex.proofs.PartScans.{ends-at-section, ends-at-code, ends-with-text, answered}
use Rattle.cw_lex.proofs.InnerScans.{inner-ends-at-bar}
use Rattle.cw_lex.proofs.laws.parts_law.Goals as goal

pub returns-clause-sections : goal.returns-clause-sections
returns-clause-sections c = ends-at-section

pub returns-clause-codes : goal.returns-clause-codes
returns-clause-codes c = ends-at-code

pub returns-clause-last : goal.returns-clause-last
returns-clause-last c = ends-with-text

pub returns-clause-answered : goal.returns-clause-answered
returns-clause-answered c = answered

pub returns-clause-inner : goal.returns-clause-inner
returns-clause-inner c = inner-ends-at-bar
