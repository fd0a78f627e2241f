-- The text of one piece goes behind those of the pieces before.
use Rattle.cw_texts.proofs.Terms.{ap, ◌++◌, length, arith, piece_is, piece_refs, tex_refs}
use Rattle.cw_texts.proofs.{PieceLaws.ended, PieceLaws.gave, RefLaws.added, RefLaws.all-added}
use Rattle.cw_texts.proofs.text_list.add_tex_texts.Goals as goal

pub all-init : goal.all-init
all-init c = ap (λ pieces. c.args.list.now ++ tex_refs c.args.uses.now c.args.number pieces) c.over-pieces.ensures

pub all-preserved : goal.all-preserved
all-preserved c = added c.all.list (piece_refs c.args.uses.now c.args.number (piece_is c.in-Some.piece)) (tex_refs
    c.args.uses.now c.args.number c.next.new.self) c.in_ok-add_piece-in-Some.ensures (ap (tex_refs c.args.uses.now
    c.args.number) (gave _ _ c.in_ok-next.next c.in-Some.piece c.in_ok-next.ensures c.in-Some.is)) c.all.invariant

pub all-smaller : goal.all-smaller
all-smaller c = omega (arith, ap length (gave _ _ c.in_ok-next.next c.in-Some.piece c.in_ok-next.ensures c.in-Some.is))

pub returns-in-None : goal.returns-in-None
returns-in-None c = all-added (ap (tex_refs c.args.uses.now c.args.number)
    (ended _ _ c.in_ok-next.next c.in_ok-next.ensures c.in-None.is)) c.all.invariant
