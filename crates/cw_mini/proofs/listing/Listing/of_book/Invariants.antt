-- Each section has those of the rows so far that it lists; those that are to come decide of the rest.
use Rattle.cw_mini.proofs.Terms.{◌≡◌, ℕ, ◌+◌, ◌≤◌, drop, length, index_rows, section_rows, names_at, row_names}
use Rattle.cw_mini.proofs.RowPlaces.{with_rows}
use Rattle.cw_mini.proofs.listing.Listing.of_book.Given as goal

abbrev pub invariant-loop-id : goal.invariant-loop-id
invariant-loop-id l = record {
  listed : (section : ℕ) → section ≤ length l.fn.book.outline.sections → with_rows section l.fn.book.xrefs
      (names_at section l.listing.by_section.items) (drop l.id-index (index_rows l.fn.book.names l.fn.book.xrefs))
      ≡ row_names (section_rows section l.fn.book.names l.fn.book.xrefs);
  len : length l.listing.by_section.items ≡ length l.fn.book.outline.sections + 1;
}
