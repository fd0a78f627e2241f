-- The line of the next row goes behind those before it.
use Rattle.cw_mini.proofs.Terms.{◌≡◌, ◌∙◌, ℕ, ◌<◌, List, ◌++◌, Some, ap, length, subst, sym, slice_get}
use Rattle.cw_mini.proofs.Terms.{slice_get_within, Entry, IndexRow, row, section_rows, row_line}
use Rattle.cw_mini.proofs.RowLines.{IsIdentRow, lines-next, section-idents}
use Rattle.cw_mini.proofs.RowPlaces.{IsHere, row-here}
use Rattle.cw_mini.proofs.lines.section_lines.Goals as goal

pub append_row-requires : goal.append_row-requires
append_row-requires c =
    let names : List Entry = c.args.book.now.names in
    let rows : List IndexRow = section_rows c.args.section names c.args.book.now.xrefs in
    let here : IsHere (IsIdentRow names c.args.book.now.xrefs) c.args.names.now rows c.loop-id.id-index
    (record { index = 0 }) = row-here (IsIdentRow names c.args.book.now.xrefs) c.args.names.now rows c.loop-id.id-index
    (record { index = 0 }) c.requires (section-idents c.args.section names c.args.book.now.xrefs) c.loop-id-test.true in
    subst (λ (n : ℕ). n < length names) here.name
    (slice_get_within names here.row.name here.row.entry here.is.of_name.there)

pub loop-id-preserved : goal.loop-id-preserved
loop-id-preserved c =
    let names : List Entry = c.args.book.now.names in
    let rows : List IndexRow = section_rows c.args.section names c.args.book.now.xrefs in
    let here : IsHere (IsIdentRow names c.args.book.now.xrefs) c.args.names.now rows c.loop-id.id-index
    (record { index = 0 }) = row-here (IsIdentRow names c.args.book.now.xrefs) c.args.names.now rows c.loop-id.id-index
    (record { index = 0 }) c.requires (section-idents c.args.section names c.args.book.now.xrefs) c.loop-id-test.true in
    let f : IndexRow → List ℕ = row_line c.args.book.now.outline.sections in
    lines-next f c.loop-id.lines c.append_row.new.lines _ here.row rows c.loop-id.id-index here.next
    (c.in_ok-append_row.ensures here.row.entry (subst (λ (n : ℕ). slice_get names n ≡ Some here.row.entry) here.name
    here.is.of_name.there) here.is.ident ∙ ap (λ (r : IndexRow). c.loop-id.lines ++ f r) (ap
    (λ (n : ℕ). row n here.row.entry
    c.args.book.now.xrefs) (sym here.name) ∙ sym here.is.of_name.is)) c.loop-id.invariant
