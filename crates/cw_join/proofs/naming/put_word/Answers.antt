-- The macro of the font, the name and the closing brace are put one after another.
use Rattle.cw_join.proofs.Terms.{codes, refl, name_bytes, prints-failing, prints-longer, prints-then}
use Rattle.cw_join.proofs.naming.put_word.Goals as goal

pub returns-in_err-put_all : goal.returns-in_err-put_all
returns-in_err-put_all g c = prints-failing refl (prints-longer (codes "}")
    (prints-longer (name_bytes c.args.name.now) c.in_err-put_all.ensures)) c.from_residual.ensures.1

pub returns-in_err-put_name : goal.returns-in_err-put_name
returns-in_err-put_name g c = prints-failing refl (prints-longer (codes "}")
    (prints-then c.in_ok-put_all.ensures c.in_err-put_name.ensures)) c.from_residual-in_err-put_name.ensures.1

pub returns : goal.returns
returns g c = prints-then (prints-then c.in_ok-put_all.ensures c.in_ok-put_name.ensures) c.put_all-2.ensures
