-- What is written of blocks is a log of just these.
use Rattle.cw_logs.proofs.Terms.{sym, ◌∙◌, ap, pieces_of, TextIsLog, TextTellsBlocks}
use Rattle.cw_logs.proofs.{Cutting.text-has-lines, Telling.blocks-are-told}

pub text-is-log : TextIsLog
text-is-log blocks fine = record { blocks = blocks; fine = fine; is = text-has-lines blocks fine }

pub text-tells-blocks : TextTellsBlocks
text-tells-blocks blocks others fine good is = blocks-are-told
    _ others fine good (sym (text-has-lines blocks fine) ∙ (ap pieces_of is ∙ text-has-lines others good))
