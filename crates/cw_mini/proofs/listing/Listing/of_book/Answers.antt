-- The next name goes to the sections that list its row.
use Rattle.cw_mini.proofs.Terms.{◌≡◌, ◌∙◌, ℕ, List, Some, ap, arith, subst, slice_get, Entry, NameId, Occurrence}
use Rattle.cw_mini.proofs.Terms.{IndexRow, index_rows, names_at, positions, row_names}
use Rattle.cw_mini.proofs.NamedRows.{IsRowOf, index-named}
use Rattle.cw_mini.proofs.RowPlaces.{IsHere, row-here, with-next}
use Rattle.cw_mini.proofs.listing.Listing.of_book.Goals as goal

pub loop-id-preserved : goal.loop-id-preserved
loop-id-preserved c =
    let names : List Entry = c.args.book.now.names in
    let occurrences : List Occurrence = c.args.book.now.xrefs in
    let rows : List IndexRow = index_rows names occurrences in
    let ids : List NameId = c.as_slice-id-items.result.now in
    let none : NameId = record { index = 0 } in
    let i : ℕ = c.loop-id.id-index in
    let same : positions ids ≡ row_names rows =
    ap positions c.as_slice-id-items.ensures.value ∙ c.in_ok-order.ensures.rows in
    let here : IsHere (IsRowOf names occurrences) ids rows i none =
    row-here (IsRowOf names occurrences) ids rows i none same (index-named names occurrences) c.loop-id-test.true in
    record {
      listed = λ section last. with-next occurrences section (names_at section c.loop-id.listing.by_section.items)
          (names_at section c.add.new.self.by_section.items) ids rows i none names here (c.in_ok-add.ensures.listed
          here.row.entry (subst (λ (n : ℕ). slice_get names n ≡ Some here.row.entry) here.name here.is.there) section
          (omega (arith, last, c.loop-id.invariant.len))) ∙ c.loop-id.invariant.listed section last;
      len = c.add.ensures.len ∙ c.loop-id.invariant.len;
    }
