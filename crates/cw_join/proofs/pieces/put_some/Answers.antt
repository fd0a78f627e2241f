-- Where there are no bytes, nothing is put.
use Rattle.cw_join.proofs.Terms.{length, sym, ◌∙◌, eqb-true, prints-none, prints-bytes}
use Rattle.cw_join.proofs.NameLaws.{nothing}
use Rattle.cw_join.proofs.pieces.put_some.Goals as goal

pub returns-then-is_empty : goal.returns-then-is_empty
returns-then-is_empty g c = prints-bytes (nothing c.args.bytes.now
    (eqb-true (length c.args.bytes.now) 0 (sym c.is_empty.ensures ∙ c.if-is_empty.true))) (prints-none _ _ (tt {0}))
