-- What each piece of the row inserts is put behind what stands there, with the toggle that it needs, and the room lasts
-- for all.
use Rattle.cw_scraps.proofs.Terms.{arith, length-drop}
use Rattle.cw_scraps.proofs.Buildings.{joins-start}
use Rattle.cw_scraps.proofs.Insertions.{inserts, inserts-next, inserts-put, inserts-within}
use Rattle.cw_scraps.proofs.joining.join.Goals as goal

pub loop-i-init : goal.loop-i-init
loop-i-init c = joins-start _ _ _ _ _ c.begin.ensures.lists c.begin.ensures.building c.begin.ensures.spare
    c.requires.run c.requires.roots

pub put_piece-modes-requires-clause-within : goal.put_piece-modes-requires-clause-within
put_piece-modes-requires-clause-within c = inserts-within _ _ _ _ _ _ _ _ c.loop-i.invariant _
    (inserts _ _ _ (omega (arith, c.piece_count-i-end.ensures.count)) c.insertion.ensures) c.requires.roots _ _
    (omega (arith, length-drop c.args.place c.args.line.now))
    (omega (arith, c.loop-i.invariant.spent, c.loop-i.invariant.few, c.piece_count-i-end.ensures.twelve))

pub put_piece-modes-requires-clause-reference : goal.put_piece-modes-requires-clause-reference
put_piece-modes-requires-clause-reference c = inserts-put _ _ _ _ _ _ _ _ c.loop-i.invariant _
    (inserts _ _ _ (omega (arith, c.piece_count-i-end.ensures.count)) c.insertion.ensures) c.requires.roots
    (omega (arith, c.loop-i.invariant.spent, c.loop-i.invariant.few, c.piece_count-i-end.ensures.twelve))

pub put_piece-modes-requires-clause-begun : goal.put_piece-modes-requires-clause-begun
put_piece-modes-requires-clause-begun c = c.loop-i.invariant.begun

pub loop-i-preserved : goal.loop-i-preserved
loop-i-preserved c = rw (c.put_piece-modes.ensures.left, c.put_piece-modes.ensures.right)
    (inserts-next _ _ _ _ _ _ _ _ c.loop-i.invariant _
    (inserts _ _ _ (omega (arith, c.piece_count-i-end.ensures.count)) c.insertion.ensures) c.requires.roots _
    c.put_piece-modes.ensures.building c.put_piece-modes.ensures.lists c.put_piece-modes.ensures.spare)
