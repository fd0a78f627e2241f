-- The brackets and the name, one behind another.
use Rattle.cw_print.proofs.Terms.{ℕ, List, ◌++◌, refl, codes, append_assoc, ident_bytes, prints-failing, prints-longer}
use Rattle.cw_print.proofs.Terms.{prints-then, word_at}
use Rattle.cw_print.proofs.printing.print_name.Goals as goal
use Rattle.cw_base.specs.Conditions.{list_if}

pub returns-in_err-put_bracket : goal.returns-in_err-put_bracket
returns-in_err-put_bracket g c =
    let later : List ℕ = word_at ident_bytes c.args.names.now c.args.name.index ++ list_if c.args.wraps (codes "}") in
    prints-failing refl (prints-longer later c.in_err-put_bracket.ensures) c.from_residual.ensures.1

pub returns-in_err-put_ident_of : goal.returns-in_err-put_ident_of
returns-in_err-put_ident_of g c =
    let behind : List ℕ = list_if c.args.wraps (codes "}") in
    prints-failing (append_assoc (list_if c.args.wraps (codes "\\PB{")) (word_at ident_bytes c.args.names.now
    c.args.name.index) behind) (prints-longer behind (prints-then c.in_ok-put_bracket.ensures
    c.in_err-put_ident_of.ensures)) c.from_residual-in_err-put_ident_of.ensures.1

pub returns : goal.returns
returns g c =
    prints-then c.in_ok-put_bracket.ensures (prints-then c.in_ok-put_ident_of.ensures c.put_bracket-2.ensures)
