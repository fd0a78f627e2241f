-- The backslash is put, and then the letters.
use Rattle.cw_join.proofs.Terms.{map, refl, prints-failing, prints-longer, prints-then, macro_letter}
use Rattle.cw_join.proofs.naming.put_macro.Goals as goal

pub returns-in_err-put_all : goal.returns-in_err-put_all
returns-in_err-put_all g c = prints-failing refl
    (prints-longer (map macro_letter c.args.name.now) c.in_err-put_all.ensures) c.from_residual.ensures.1

pub returns : goal.returns
returns g c = prints-then c.in_ok-put_all.ensures c.put_letters.ensures
