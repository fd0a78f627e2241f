-- The head that is read, and the text behind it, give the translation; the lists that the store held stay.
use Rattle.cw_reduce.proofs.Terms.{answers_ahead, texts_in, recorded-refused, ends-as, ends-behind, ends-refused, begin}
use Rattle.cw_reduce.proofs.NameSteps.{headed-translated}
use Rattle.cw_reduce.proofs.Joined.{texts-nested}
use Rattle.cw_reduce.proofs.headed.translate_with_head.Goals as goal
use Rattle.cw_reduce.specs.Heading.{behind_head, in_head}
use Rattle.cw_translator.proofs.Terms.{◌++◌, refl, arith, marked_names, answers_in}

pub returns-in_err-begun-clause-text : goal.returns-in_err-begun-clause-text
returns-in_err-begun-clause-text g c = ends-refused c.from_residual.ensures.1
    (in_head c.in_err-begun.ensures.head.no_names) (recorded-refused _ _ c.from_residual.ensures.1) (omega arith)
    (record { names = refl; store = refl; marks = refl; steps = refl }) c.in_err-begun.ensures.head.idle

pub returns-clause-text : goal.returns-clause-text
returns-clause-text g c = ends-behind c.in_ok-begun.ensures.head.keeps refl refl refl refl (record
    { names = refl; store = refl; marks = refl; steps = refl }) (ends-as (headed-translated c.args.context.now.flags.now
    (texts_in c.args.context.now) (texts-nested c.args.context.now.sec_names.now c.args.context.now.uses.now)
    c.read_head.new.store.lists c.in_ok-begun.begun.head (answers_ahead c.in_ok-begun.begun
    ++ c.read_head.new.reader.coming) (answers_in c.args.first ++ c.args.reader.now.coming) c.args.work.now.names.now
    c.read_head.new.names (marked_names c.args.work.now.marks.now) c.in_ok-begun.ensures.head.made
    c.in_ok-begun.ensures.head.rest) (λ names h. behind_head c.read_head.new.store.lists c.in_ok-begun.begun.head _
    c.read_head.new.names c.in_ok-begun.ensures.head.rest (c.in_ok-begun.ensures.head.made _ _
    (begin c.args.work.now.names.now (marked_names c.args.work.now.marks.now))) h) c.translate_headed.ensures.text)
