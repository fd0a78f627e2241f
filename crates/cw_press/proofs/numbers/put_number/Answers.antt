-- The digits, and the mark behind them.
use Rattle.cw_press.proofs.Terms.{rules, ◌≡◌, ap, ◌++◌, List, ℕ, decimal, prints-bytes, prints-stop, prints-then}
use Rattle.cw_press.proofs.Terms.{changed_mark}
use Rattle.cw_press.proofs.numbers.put_number.Goals as goal

pub returns-in_err-put_all : goal.returns-in_err-put_all
returns-in_err-put_all g c =
    let e : c.as_bytes.result.now ≡ decimal c.args.number = search rules in
    prints-bytes (ap (λ (bytes : List ℕ). bytes ++ changed_mark c.args.changed) e)
    (prints-stop (changed_mark c.args.changed) c.in_err-put_all.ensures c.from_residual.ensures.1)

pub returns : goal.returns
returns g c =
    let e : c.as_bytes.result.now ≡ decimal c.args.number = search rules in
    prints-bytes (ap (λ (bytes : List ℕ). bytes ++ changed_mark c.args.changed) e) (prints-then c.in_ok-put_all.ensures
    c.put_changed_mark.ensures)
