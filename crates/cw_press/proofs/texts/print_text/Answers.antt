-- The text is translated, and then it is printed.
use Rattle.cw_press.proofs.Terms.{puts-bytes}
use Rattle.cw_press.proofs.TextLaws.{translated-woven, unprinted-woven, untranslated-woven}
use Rattle.cw_press.proofs.texts.print_text.Goals as goal

pub returns-in_err-translated-clause-weaves : goal.returns-in_err-translated-clause-weaves
returns-in_err-translated-clause-weaves g c =
    untranslated-woven c.in_err-translated.ensures.translates c.from_residual.ensures.1

pub returns-in_err-print-clause-weaves : goal.returns-in_err-print-clause-weaves
returns-in_err-print-clause-weaves g c = unprinted-woven c.in_ok-translated.ensures.translates
    (puts-bytes c.in_ok-translated.ensures.printed c.in_err-print.ensures.puts) c.from_residual-in_err-print.ensures.1

pub returns-clause-weaves : goal.returns-clause-weaves
returns-clause-weaves g c = translated-woven c.counts.ensures c.in_ok-translated.ensures.translates
    (puts-bytes c.in_ok-translated.ensures.printed c.in_ok-print.ensures.puts)
