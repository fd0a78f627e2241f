-- What the answers so far print is put.
use Rattle.cw_texpart.proofs.Terms.{length, IsSameSheet, inks, scanned}
use Rattle.cw_texpart.proofs.LayingLaws.{Inking}
use Rattle.cw_rules.specs.declared.tokens.Mode.TheVariants as modes
use Rattle.cw_texpart.proofs.limbo.put_limbo.Given as goal

abbrev pub invariant-answers : goal.invariant-answers
invariant-answers g l = let told = g.D.Desk.told in record {
  inked : Inking (inks l.text l.lexer) (inks l.text (scanned modes.Limbo l.text l.fn.span)) l.fn.sheet.line.now
      l.sheet.line.now (told l.fn.sheet.desk.now) (told l.sheet.desk.now);
  same : IsSameSheet l.fn.sheet l.sheet;
}

abbrev pub decreases-answers : goal.decreases-answers
decreases-answers g l = length l.lexer
