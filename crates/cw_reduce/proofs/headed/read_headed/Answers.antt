-- What the head makes, and then the answers behind it, are the text with its head.
use Rattle.cw_reduce.proofs.Terms.{answers_ahead, with_texts, texts_in, advances-as, advances-stopped, advances-then}
use Rattle.cw_reduce.proofs.NameSteps.{headed-among}
use Rattle.cw_reduce.proofs.headed.read_headed.Goals as goal
use Rattle.cw_translator.proofs.Terms.{◌++◌, refl, progress_over}

pub returns-in_err-head_name-clause-reads : goal.returns-in_err-head_name-clause-reads
returns-in_err-head_name-clause-reads g c = advances-as refl (headed-among c.args.context.now.flags.now
    (texts_in c.args.context.now) c.args.begun.now.head (answers_ahead c.args.begun.now ++ c.args.reader.now.coming)
    (progress_over c.args.work.now c.args.translator.now)) (advances-stopped (with_texts (texts_in c.args.context.now)
    (answers_ahead c.args.begun.now ++ c.args.reader.now.coming)) c.in_err-head_name.ensures c.from_residual.ensures.1)

pub returns-clause-reads : goal.returns-clause-reads
returns-clause-reads g c = advances-as refl (headed-among c.args.context.now.flags.now (texts_in c.args.context.now)
    c.args.begun.now.head (answers_ahead c.args.begun.now ++ c.args.reader.now.coming)
    (progress_over c.args.work.now c.args.translator.now)) (advances-then (with_texts (texts_in c.args.context.now)
    (answers_ahead c.args.begun.now ++ c.args.reader.now.coming)) c.in_ok-head_name.ensures c.read_behind.ensures.reads)
