-- A byte that prints itself is appended.
use Rattle.cw_print.proofs.Terms.{sym, ◌∙◌}
use Rattle.cw_print.proofs.PlainLaws.{plain-printed}
use Rattle.cw_print.proofs.texts.put_next.Goals as goal

pub returns-then-not-is_special-clause-printed : goal.returns-then-not-is_special-clause-printed
returns-then-not-is_special-clause-printed c = plain-printed c.args.out.now c.push.new.self c.args.others.now
    c.args.byte c.args.portion.now (sym c.has_room.ensures ∙ c.if-has_room.true) (sym c.is_special.ensures
    ∙ c.if-not-is_special.true) c.in_ok-push.ensures.ok
