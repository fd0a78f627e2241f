-- The answers so far have made no piece.
use Rattle.cw_texts.proofs.Terms.{◌≡◌, length, tex_pieces}
use Rattle.cw_texts.proofs.pieces.next_piece.Given as goal

abbrev pub invariant-answers : goal.invariant-answers
invariant-answers l = tex_pieces l.fn.texts.depth l.fn.texts.start l.fn.lexer
    ≡ tex_pieces l.texts.depth l.texts.start l.lexer

abbrev pub decreases-answers : goal.decreases-answers
decreases-answers l = length l.lexer
