-- Each name has the sections that it had, and at each turn fewer lists are wanting.
use Rattle.cw_names.proofs.Terms.{◌≡◌, ℕ, ◌+◌, ◌-◌, length, sections_at}
use Rattle.cw_names.proofs.xrefs.add_lists.Given as goal

abbrev pub invariant-names : goal.invariant-names
invariant-names l = (other : ℕ) → sections_at other l.lists.items ≡ sections_at other l.fn.lists.items

abbrev pub decreases-names : goal.decreases-names
decreases-names l = l.name + 1 - length l.lists.items
