-- The names so far, with those that are still to come, are those of the index.
use Rattle.cw_index.proofs.Terms.{◌≡◌, ◌<◌, All, length, map, IsNamed, index_rows}
use Rattle.cw_index.proofs.OrderNames.{names_with}
use Rattle.cw_index.proofs.headings.index_order.Given as goal

abbrev pub invariant-loop-heading : goal.invariant-loop-heading
invariant-loop-heading l = record {
  names : names_with l.order.items l.heading-iterator ≡ map (λ row. row.name) (index_rows l.fn.names l.fn.xrefs);
  within : All (λ id. id.index < length l.fn.names) l.order.items;
  named : All (IsNamed l.fn.names) l.heading-iterator;
}
