-- The bytes before the first backslash, and then the pieces behind it, are the bytes of the name.
use Rattle.cw_join.proofs.Terms.{name_bytes, prints-failing, prints-longer, prints-then, prints-bytes}
use Rattle.cw_join.proofs.NameLaws.{name-parts, name-begins}
use Rattle.cw_join.proofs.naming.put_name.Goals as goal

pub returns-in_err-put_all : goal.returns-in_err-put_all
returns-in_err-put_all g c = prints-failing (name-parts c.args.name.now c.split_at.result.0.now c.split_at.result.1.now
    c.plain_size-size.result c.plain_size-size.ensures.size c.split_at.ensures.front c.split_at.ensures.back)
    (prints-longer (name_bytes c.split_at.result.1.now) c.in_err-put_all.ensures) c.from_residual.ensures.1

pub put_pieces-requires-clause-begins : goal.put_pieces-requires-clause-begins
put_pieces-requires-clause-begins g c = name-begins c.args.name.now c.split_at.result.1.now c.plain_size-size.result
    c.plain_size-size.ensures.size c.split_at.ensures.back

pub returns : goal.returns
returns g c = prints-bytes (name-parts c.args.name.now c.split_at.result.0.now c.split_at.result.1.now
    c.plain_size-size.result c.plain_size-size.ensures.size c.split_at.ensures.front c.split_at.ensures.back)
    (prints-then c.in_ok-put_all.ensures c.put_pieces.ensures)
