-- The places in the folders so far.
use Rattle.cw_desk.proofs.Terms.{◌≡◌, ◌++◌, take}
use Rattle.cw_desk.specs.Places.{places_in}
use Rattle.cw_desk.proofs.places.add_places.Given as goal

abbrev pub invariant-loop-folder : goal.invariant-loop-folder
invariant-loop-folder l = l.places.items
    ≡ l.fn.places.items ++ places_in (take l.folder-index l.folders) l.name
