-- The break or blank of the run is put, and then its step to the left; a failure of the first ends both.
use Rattle.cw_join.proofs.Terms.{List, ℕ, ◌++◌, ap, ◌∙◌, prints-failing, prints-longer, prints-then, prints-bytes}
use Rattle.cw_join.proofs.Terms.{backs, state_of, step_bytes}
use Rattle.cw_join.proofs.joiner.end_run.Goals as goal

pub returns-in_err-put_some : goal.returns-in_err-put_some
returns-in_err-put_some g c =
    let later : List ℕ = step_bytes (backs c.args.inner (state_of c.args.run)) in
    prints-failing (ap (λ (l : List ℕ). l ++ later) c.pause.ensures) (prints-longer later c.in_err-put_some.ensures)
    c.from_residual.ensures.1

pub returns : goal.returns
returns g c = prints-bytes (λ i. c.pause.ensures i ++ (c.step.ensures ∙ ap step_bytes c.backs.ensures) i)
    (prints-then c.in_ok-put_some.ensures c.put_some-2.ensures)
