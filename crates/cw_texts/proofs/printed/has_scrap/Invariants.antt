-- No answer so far makes a scrap: those behind them decide.
use Rattle.cw_texts.proofs.Terms.{◌≡◌, length, has_scrap}
use Rattle.cw_rules.specs.declared.tokens.Mode.TheVariants.{CPart}
use Rattle.cw_texts.specs.Scans.{scanned}
use Rattle.cw_texts.proofs.printed.has_scrap.Given as goal

abbrev pub invariant-answers : goal.invariant-answers
invariant-answers l = has_scrap l.uses l.lexer ≡ has_scrap l.uses (scanned CPart l.text l.fn.part)

abbrev pub decreases-answers : goal.decreases-answers
decreases-answers l = length l.lexer
