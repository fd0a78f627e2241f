-- The lines of a text stand behind those of the texts before it.
use Rattle.cw_plain.proofs.Terms.{Option, subst, GivesText, HasTranslated, NextText}
use Rattle.cw_plain.proofs.FileLaws.{written-more, written-refused, written-wanting}
use Rattle.cw_plain.proofs.file.write_texts.Goals as goal

pub returns-in_err-next : goal.returns-in_err-next
returns-in_err-next g c = written-wanting c.all.invariant c.from_residual.ensures.1

pub all-preserved : goal.all-preserved
all-preserved g c =
    let has : HasTranslated c.all.each c.next.new.self c.in-Some.next c.all.names c.next.new.names c.all.steps
    c.next.new.steps = subst (λ (next : Option NextText). GivesText c.all.each next c.next.new.self c.all.names
    c.next.new.names c.all.steps c.next.new.steps) c.in-Some.is c.in_ok-next.ensures.gives in
    written-more _ _ _ _ _ _ _ _ _ _ _ c.all.invariant c.in_ok-next.ensures.source has
    c.in_ok-write_text-in-Some.ensures

pub returns-in_err-write_text-in-Some : goal.returns-in_err-write_text-in-Some
returns-in_err-write_text-in-Some g c =
    let has : HasTranslated c.all.each c.next.new.self c.in-Some.next c.all.names c.next.new.names c.all.steps
    c.next.new.steps = subst (λ (next : Option NextText). GivesText c.all.each next c.next.new.self c.all.names
    c.next.new.names c.all.steps c.next.new.steps) c.in-Some.is c.in_ok-next.ensures.gives in
    written-refused _ _ _ _ _ _ _ _ _ _ _ c.all.invariant c.in_ok-next.ensures.source has
    c.in_err-write_text-in-Some.ensures c.from_residual-in_err-write_text-in-Some.ensures.1
