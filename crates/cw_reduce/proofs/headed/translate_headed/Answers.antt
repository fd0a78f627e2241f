-- What a text with its head comes to is its translation, and want of memory leaves what was on the way to it.
use Rattle.cw_reduce.proofs.Terms.{[], refl, arith, head_line, unchanged, recorded-refused, ends-as, ends-refused}
use Rattle.cw_reduce.proofs.Terms.{ends-stopped, ends-then, way-end}
use Rattle.cw_reduce.proofs.NameSteps.{head-translating, headed-as, whole-start}
use Rattle.cw_reduce.proofs.Joined.{texts-nested}
use Rattle.cw_reduce.proofs.headed.translate_headed.Goals as goal
use Rattle.cw_reduce.specs.Heading.{behind}

pub read_headed-requires-clause-translating : goal.read_headed-requires-clause-translating
read_headed-requires-clause-translating g c = head-translating c.args.work.now.store.now c.args.work.now.names.now
    c.in_ok-translator.translator (head_line c.args.begun.now.head) c.in_ok-translator.ensures c.requires.sound

pub returns-in_err-translator-clause-text : goal.returns-in_err-translator-clause-text
returns-in_err-translator-clause-text g c = ends-refused c.from_residual.ensures.1 (whole-start _ _ _ _ _)
    (recorded-refused _ _ c.from_residual.ensures.1) (omega arith) unchanged c.requires.sound.idle

pub returns-in_err-read_headed-clause-text : goal.returns-in_err-read_headed-clause-text
returns-in_err-read_headed-clause-text g c = headed-as _ _ (texts-nested c.args.context.now.sec_names.now
    c.args.context.now.uses.now) _ _ c.requires.nested c.in_ok-translator.ensures
    (ends-stopped [] c.in_err-read_headed.ensures.reads c.from_residual-in_err-read_headed.ensures.1 (λ names h. h))

pub returns-clause-text : goal.returns-clause-text
returns-clause-text g c = headed-as _ _ (texts-nested c.args.context.now.sec_names.now c.args.context.now.uses.now) _ _
    c.requires.nested c.in_ok-translator.ensures (ends-as refl (λ names h. behind (way-end _ _ _ _ names refl h))
    (ends-then [] c.in_ok-read_headed.ensures.reads c.end.ensures))
