-- The folders so far, the bytes behind the last colon and what is left of the list are the list's folders.
use Rattle.cw_desk.proofs.Terms.{◌≡◌, ◌≤◌, slice_range, drop}
use Rattle.cw_desk.specs.Places.{folders_from, folders_of}
use Rattle.cw_desk.proofs.places.add_folders.Given as goal

abbrev pub invariant-loop-at : goal.invariant-loop-at
invariant-loop-at l = record {
  within : l.from ≤ l.at;
  folders : folders_from l.folders.items (slice_range l.list l.from l.at) (drop l.at l.list) ≡ folders_of l.list;
}
