-- Each section lists the name if some place so far is a use in it; those behind them decide of the rest.
use Rattle.cw_mini.proofs.Terms.{◌≡◌, ℕ, ◌<◌, drop, length, names_at}
use Rattle.cw_mini.proofs.ListingLaws.{with_later}
use Rattle.cw_mini.proofs.listing.Listing.add.Given as goal

abbrev pub invariant-loop-place : goal.invariant-loop-place
invariant-loop-place l = record {
  listed : (section : ℕ) → section < length l.fn.self.by_section.items
      → with_later section l.id.index (names_at section l.self.by_section.items) (drop l.place-index l.place-items)
      ≡ with_later section l.id.index (names_at section l.fn.self.by_section.items) l.place-items;
  len : length l.self.by_section.items ≡ length l.fn.self.by_section.items;
}
