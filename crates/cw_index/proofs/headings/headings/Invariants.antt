-- The names so far are entered.
use Rattle.cw_index.proofs.Terms.{◌≡◌, All, drop, map, IsNamed, row_of, index_rows}
use Rattle.cw_index.proofs.RowLaws.{with_later}
use Rattle.cw_index.proofs.headings.headings.Given as goal

abbrev pub invariant-loop-index : goal.invariant-loop-index
invariant-loop-index l = record {
  rows : with_later l.index (drop l.index l.names) l.xrefs (map row_of l.headings.keys) ≡ index_rows l.names l.xrefs;
  named : All (IsNamed l.names) l.headings.keys;
}
