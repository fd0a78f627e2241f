-- What the run prints at its end is put, and then the item's own bytes; a failure ends both.
use Rattle.cw_join.proofs.Terms.{List, ℕ, ◌++◌, ap, prints-failing, prints-longer, prints-then, prints-bytes}
use Rattle.cw_join.proofs.Terms.{state_back, JoinerState, item_bytes}
use Rattle.cw_join.proofs.joiner.Joiner.push_other.Goals as goal

pub returns-in_err-end_run-clause-prints : goal.returns-in_err-end_run-clause-prints
returns-in_err-end_run-clause-prints g c =
    let item : List ℕ = item_bytes c.args.names.now c.args.token.item c.args.token.bytes.now in
    prints-failing (λ i. state_back (c.is_inner.ensures i) (ap (λ (j : JoinerState). j.run) c.self.view_is i) ++ item)
    (prints-longer item c.in_err-end_run.ensures) c.from_residual.ensures.1

pub returns-in_err-put_item-clause-prints : goal.returns-in_err-put_item-clause-prints
returns-in_err-put_item-clause-prints g c =
    let item : List ℕ = item_bytes c.args.names.now c.args.token.item c.args.token.bytes.now in
    prints-failing (λ i. state_back (c.is_inner.ensures i) (ap (λ (j : JoinerState). j.run) c.self.view_is i) ++ item)
    (prints-then c.in_ok-end_run.ensures c.in_err-put_item.ensures) c.from_residual-in_err-put_item.ensures.1

pub returns-clause-prints : goal.returns-clause-prints
returns-clause-prints g c =
    let item : List ℕ = item_bytes c.args.names.now c.args.token.item c.args.token.bytes.now in
    prints-bytes (λ i. state_back (c.is_inner.ensures i) (ap (λ (j : JoinerState). j.run) c.self.view_is i) ++ item)
    (prints-then c.in_ok-end_run.ensures c.in_ok-put_item.ensures)
