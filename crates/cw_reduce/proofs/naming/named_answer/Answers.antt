-- An answer that is no section name stands for itself.
use Rattle.cw_reduce.proofs.Terms.{sym, ◌∙◌, texts_in}
use Rattle.cw_reduce.proofs.NameSteps.{no-name-answer}
use Rattle.cw_reduce.proofs.naming.named_answer.Goals as goal

pub returns-then-not-is_name : goal.returns-then-not-is_name
returns-then-not-is_name g c = rw (← no-name-answer (texts_in c.args.context.now) c.args.answer.now
    (sym c.is_name.ensures ∙ c.if-not-is_name.true)) c.answer.ensures
