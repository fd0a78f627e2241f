-- What the scrap, and then the answers behind it, come to is the text.
use Rattle.cw_reduce.proofs.Terms.{◌++◌, refl, arith, answers_ahead, with_texts, here, progress_over, texts_in}
use Rattle.cw_reduce.proofs.Terms.{unchanged}
use Rattle.cw_reduce.proofs.Terms.{recorded-refused, ends-answers, ends-answers-stopped, ends-refused}
use Rattle.cw_reduce.proofs.AloneSteps.{ahead-is, leaf-as}
use Rattle.cw_reduce.proofs.alone.translate_on.Goals as goal

pub returns-in_err-translator-clause-text : goal.returns-in_err-translator-clause-text
returns-in_err-translator-clause-text g c = ends-refused c.from_residual.ensures.1 (here _ _)
    (recorded-refused _ _ c.from_residual.ensures.1) (omega arith) unchanged c.requires.translating.idle

pub returns-in-Err-clause-text : goal.returns-in-Err-clause-text
returns-in-Err-clause-text g c = leaf-as c.args.context.now.flags.now (texts_in c.args.context.now) c.args.leaf
    c.in_ok-translator.ensures (ahead-is c.headless.result c.args.next.now c.args.reader.now.coming
    c.headless.ensures.name c.headless.ensures.next) (ends-answers-stopped c.args.context.now.flags.now
    (with_texts (texts_in c.args.context.now) (answers_ahead c.headless.result ++ c.args.reader.now.coming))
    (progress_over c.args.work.now c.in_ok-translator.translator) c.in-Err.ensures.reads refl)

pub returns-in-Ok-clause-text : goal.returns-in-Ok-clause-text
returns-in-Ok-clause-text g c = leaf-as c.args.context.now.flags.now
    (texts_in c.args.context.now) c.args.leaf c.in_ok-translator.ensures (ahead-is c.headless.result c.args.next.now
    c.args.reader.now.coming c.headless.ensures.name c.headless.ensures.next) (ends-answers c.args.context.now.flags.now
    (with_texts (texts_in c.args.context.now) (answers_ahead c.headless.result ++ c.args.reader.now.coming))
    (progress_over c.args.work.now c.in_ok-translator.translator) c.in-Ok.ensures.reads c.end.ensures)
