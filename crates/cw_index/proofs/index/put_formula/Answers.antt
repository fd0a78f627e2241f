-- The dollars and the name, one behind another.
use Rattle.cw_index.proofs.Terms.{List, ℕ, ◌++◌, codes, refl, word_at, prints-failing, prints-longer, prints-then}
use Rattle.cw_index.proofs.Terms.{reserved_bytes}
use Rattle.cw_index.proofs.index.put_formula.Goals as goal

pub returns-in_err-put_all : goal.returns-in_err-put_all
returns-in_err-put_all g c =
    let later : List ℕ = word_at reserved_bytes c.args.names.now c.args.id.index ++ codes "$" in
    prints-failing refl (prints-longer later c.in_err-put_all.ensures) c.from_residual.ensures.1

pub returns-in_err-put_reserved_of : goal.returns-in_err-put_reserved_of
returns-in_err-put_reserved_of g c =
    prints-failing refl (prints-longer (codes "$") (prints-then c.in_ok-put_all.ensures
    c.in_err-put_reserved_of.ensures)) c.from_residual-in_err-put_reserved_of.ensures.1

pub returns : goal.returns
returns g c = prints-then c.in_ok-put_all.ensures (prints-then c.in_ok-put_reserved_of.ensures c.put_all-2.ensures)
