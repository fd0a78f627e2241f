-- No section has a name, and at each turn fewer lists are wanting.
use Rattle.cw_mini.proofs.Terms.{◌≡◌, ℕ, ◌+◌, ◌-◌, ◌≤◌, [], length, names_at}
use Rattle.cw_mini.proofs.listing.Listing.for_sections.Given as goal

abbrev pub invariant-sections : goal.invariant-sections
invariant-sections l = record {
  names : (section : ℕ) → names_at section l.by_section.items ≡ [];
  len : length l.by_section.items ≤ l.count + 1;
}

abbrev pub decreases-sections : goal.decreases-sections
decreases-sections l = l.count + 1 - length l.by_section.items
