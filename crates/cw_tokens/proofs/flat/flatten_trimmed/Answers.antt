-- At the end of a list the walk goes on in the one above it; at the last the trimmer stands for all items of the tree.
use Rattle.cw_tokens.proofs.Terms.{sym, ◌∙◌}
use Rattle.cw_tokens.proofs.Places.{below-cut}
use Rattle.cw_tokens.proofs.TrimmedWalk.{ahead-end, ahead-popped, ahead-start}
use Rattle.cw_tokens.proofs.flat.flatten_trimmed.Goals as goal

pub loop-above-init : goal.loop-above-init
loop-above-init c = rw c.new-above.ensures.items (ahead-start _ _ _ _ c.requires.tied (below-cut _ _ _ c.requires.root)
    c.in_ok-out.ensures c.list_at-rest.ensures)

pub loop-above-preserved : goal.loop-above-preserved
loop-above-preserved c = ahead-popped _ _ _ _ _ _ _ (c.in_ok-lay_rest.ensures.items _ c.loop-above.invariant)
    c.in-Some.ensures.items c.in_ok-close_trimmed-in-Some.ensures

pub returns-in-None : goal.returns-in-None
returns-in-None c = ahead-end _ c.lay_rest.new.above.items _ _ _ (c.in_ok-lay_rest.ensures.items _
    c.loop-above.invariant) (sym c.lay_rest.new.above.ok.0 ∙ c.in-None.ensures.cases.0) c.done.ensures
