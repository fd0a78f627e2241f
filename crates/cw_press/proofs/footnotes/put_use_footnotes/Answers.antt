-- Citations, and then uses.
use Rattle.cw_press.proofs.Terms.{◌≤◌, length, arith, prints-bytes, prints-none, prints-stop, prints-then, of_name}
use Rattle.cw_press.proofs.Terms.{use_footnotes, Some}
use Rattle.std.proofs.lemmas.Option.{slice_get_past}
use Rattle.cw_press.proofs.FootnoteLaws.{cited-first, no-name, used-last, used_by}
use Rattle.cw_press.proofs.footnotes.put_use_footnotes.Goals as goal

pub returns-then-id-len : goal.returns-then-id-len
returns-then-id-len g c =
    let past : length c.args.book.now.sec_names ≤ c.args.id.index = omega (arith, c.len.ensures) in
    prints-bytes (no-name (use_footnotes c.args.book.now.outline.sections) c.args.book.now.sec_names c.args.id
    (slice_get_past c.args.book.now.sec_names c.args.id.index past)) (prints-none _ _ _)

pub returns-in_err-put_footnote : goal.returns-in_err-put_footnote
returns-in_err-put_footnote g c = prints-bytes (cited-first c.args.book.now.outline.sections c.args.book.now.sec_names
    c.args.id c.cited_in.result.now c.cited_in.ensures.value)
    (prints-stop (of_name (used_by c.args.book.now.outline.sections) c.args.book.now.sec_names (Some c.args.id))
    c.in_err-put_footnote.ensures c.from_residual.ensures.1)

pub returns : goal.returns
returns g c = prints-bytes (cited-first c.args.book.now.outline.sections c.args.book.now.sec_names c.args.id
    c.cited_in.result.now c.cited_in.ensures.value)
    (prints-then c.in_ok-put_footnote.ensures (prints-bytes (used-last c.args.book.now.outline.sections
    c.args.book.now.sec_names c.args.id c.used_in.result.now c.used_in.ensures.value) c.put_footnote-2.ensures))
