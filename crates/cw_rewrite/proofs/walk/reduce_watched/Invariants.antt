-- The productions and steps so far are those of the walk up to this place, the line is sound, and each production was
-- told.
use Rattle.std.proofs.Common.{◌≡◌, take}
use Rattle.cw_table.specs.Normal.{log}
use Rattle.cw_table.specs.NormalWalk.{walk_left}
use Rattle.cw_table.specs.Productions.{productions}
use Rattle.cw_scraps.specs.Applying.{state_of}
use Rattle.cw_rewrite.specs.Telling.{grown_by}
use Rattle.cw_rewrite.proofs.WalkLoop.{InLoop}
use Rattle.cw_rewrite.proofs.walk.reduce_watched.Given as goal

abbrev pub invariant-loop-found : goal.invariant-loop-found
invariant-loop-found g l = InLoop l.flags l.initial.line l.initial.store l.initial.names l.initial.marks l.initial.steps
    l.line l.store l.names l.marks l.steps l.place l.productions × ((g.W.Watch.told l.watch ≡ grown_by
    (take l.productions (log productions l.flags (state_of l.initial.store.lists l.initial.line l.initial.marks
    l.initial.names))) (g.W.Watch.told l.initial.watch)) × (g.W.Watch.basis l.watch ≡ g.W.Watch.basis l.initial.watch))

abbrev pub decreases-loop-found : goal.decreases-loop-found
decreases-loop-found g l = walk_left l.place (state_of l.store.lists l.line l.marks l.names)
