-- The bracket is put where the text is wrapped, and nothing where it isn't.
use Rattle.cw_print.proofs.Terms.{Bool, ap, sym, prints-bytes, prints-none}
use Rattle.cw_print.proofs.printing.put_bracket.Goals as goal
use Rattle.cw_base.specs.Conditions.{list_if}

pub returns-then-wraps : goal.returns-then-wraps
returns-then-wraps g c = prints-bytes (ap (λ (b : Bool). (list_if b c.args.bytes.now)) (sym c.if-wraps.true))
    c.put_all.ensures

pub returns : goal.returns
returns g c = prints-bytes (ap (λ (b : Bool). (list_if b c.args.bytes.now)) (sym c.if-wraps.false))
    (prints-none _ _ (tt {0}))
