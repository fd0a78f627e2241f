-- The changed sections, and the last lines behind them.
use Rattle.cw_index.proofs.Terms.{Bool, ap, ◌∙◌, prints-bytes, prints-failing, prints-stop, prints-then, last_lines}
use Rattle.cw_index.proofs.PrintingLaws.{print-giving}
use Rattle.cw_index.proofs.closing.print_closing.Goals as goal

pub returns-in_err-put_changes_if-clause-prints : goal.returns-in_err-put_changes_if-clause-prints
returns-in_err-put_changes_if-clause-prints g c =
    prints-stop _ c.in_err-put_changes_if.ensures c.from_residual.ensures.1

pub returns-in_err-put_all-clause-prints : goal.returns-in_err-put_all-clause-prints
returns-in_err-put_all-clause-prints g c = prints-then c.in_ok-put_changes_if.ensures
    (prints-failing (c.closing_bytes-bytes.ensures ∙ ap (λ (starred : Bool). last_lines c.args.flags.now.index starred)
    c.has_starred.ensures) c.in_err-put_all.ensures c.from_residual-in_err-put_all.ensures.1)

pub returns-clause-prints : goal.returns-clause-prints
returns-clause-prints g c = prints-then c.in_ok-put_changes_if.ensures
    (print-giving c.none.result (prints-bytes (c.closing_bytes-bytes.ensures ∙ ap
    (λ (starred : Bool). last_lines c.args.flags.now.index starred) c.has_starred.ensures) c.in_ok-put_all.ensures))
