-- The headings so far are put.
use Rattle.cw_index.proofs.Terms.{All, map, flat_map, IsNamed, row_of, row_bytes, Printing}
use Rattle.cw_index.proofs.index.put_headings.Given as goal

abbrev pub invariant-loop-heading : goal.invariant-loop-heading
invariant-loop-heading g l = let f = row_bytes l.book.outline.sections in
    record {
      put : Printing g.D.Desk.told (flat_map f (map row_of l.heading-iterator))
          (flat_map f (map row_of l.fn.headings.keys)) l.fn.sheet l.sheet;
      named : All (IsNamed l.book.names) l.heading-iterator;
    }
