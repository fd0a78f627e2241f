-- One piece is whole, and then the next; where one isn't, not all are.
use Rattle.cw_texpart.proofs.Terms.{◌≡◌, ap, sym, subst, true, All, length, arith, All-cons, All-head, All-nil}
use Rattle.cw_texpart.proofs.Terms.{All-rest, IsWholePiece, ended, gave}
use Rattle.cw_texpart.proofs.whole.is_whole.Goals as goal

pub all-init : goal.all-init
all-init c = record {
  whole = λ whole. subst (All (IsWholePiece c.args.text.now)) c.over-pieces.ensures whole;
  only = λ whole. subst (All (IsWholePiece c.args.text.now)) (sym c.over-pieces.ensures) whole;
}

pub all-preserved : goal.all-preserved
all-preserved c =
    let came = gave _ _ c.in_ok-next.next c.in-Some.piece c.in_ok-next.ensures c.in-Some.is in
    record {
      whole = λ whole. c.all.invariant.whole (subst (All (IsWholePiece c.args.text.now)) (sym came) (All-cons
          (IsWholePiece c.args.text.now) _ _ (c.is_whole_piece.ensures.whole c.if-not-is_whole_piece.false) whole));
      only = λ whole. All-rest (IsWholePiece c.args.text.now) _ _ _ came (c.all.invariant.only whole);
    }

pub all-smaller : goal.all-smaller
all-smaller c = omega (arith, ap length (gave _ _ c.in_ok-next.next c.in-Some.piece c.in_ok-next.ensures c.in-Some.is))

pub returns-in-None-clause-whole : goal.returns-in-None-clause-whole
returns-in-None-clause-whole c = λ yes. c.all.invariant.whole (subst (All (IsWholePiece c.args.text.now))
    (sym (ended _ _ c.in_ok-next.next c.in_ok-next.ensures c.in-None.is)) (All-nil (IsWholePiece c.args.text.now)))

pub returns-then-not-is_whole_piece-clause-only : goal.returns-then-not-is_whole_piece-clause-only
returns-then-not-is_whole_piece-clause-only c = λ whole.
    let came = gave _ _ c.in_ok-next.next c.in-Some.piece c.in_ok-next.ensures c.in-Some.is in
    let yes : c.is_whole_piece.result ≡ true = c.is_whole_piece.ensures.only (All-head (IsWholePiece c.args.text.now) _
    _ (subst (All (IsWholePiece c.args.text.now)) came (c.all.invariant.only whole))) in cc
