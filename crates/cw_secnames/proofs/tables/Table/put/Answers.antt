-- The new link is the last of its row, and those before it are found through it.
use Rattle.std.proofs.Common.{◌≡◌, ◌∙◌, ap, arith, length}
use Rattle.std.proofs.lemmas.List.{get_or_read}
use Rattle.cw_secnames.{specs.model.Marks.row_of, proofs.Linked.has-under, proofs.Linked.keeps-under}
use Rattle.cw_secnames.proofs.tables.Table.put.Goals as goal

pub returns-clause-keeps : goal.returns-clause-keeps
returns-clause-keeps c = grind (arith, keeps-under, get_or_read)

pub returns-clause-ok : goal.returns-clause-ok
returns-clause-ok c =
    let rows : c.len.result ≡ length c.args.self.now.rows.items = c.len.ensures ∙ c.args.self.now.rows.ok.0 in
    has-under c.args.self.now.rows.items c.args.self.now.links.items c.push.new.self.items _ c.row_of-row.result
    c.len-place.result c.args.mark (omega (arith, rows, c.row_of-row.ensures.within)) c.in_ok-push.ensures.items
    (c.len-place.ensures ∙ c.args.self.now.links.ok.0) (c.row_of-row.ensures.value ∙ ap (row_of c.args.mark) rows)
    c.sign_of.ensures
