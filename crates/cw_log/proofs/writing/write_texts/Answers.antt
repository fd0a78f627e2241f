-- The blocks of a text stand behind those of the texts before it.
use Rattle.cw_log.proofs.Terms.{◌≡◌, ◌∷◌, Option, None, subst, TextRef, source_of}
use Rattle.cw_texts.specs.Coming.{GivesRef}
use Rattle.cw_log.proofs.WritingLaws.{none-written, text-whole, written-all, written-more, written-refused}
use Rattle.cw_log.proofs.WritingLaws.{written-wanting}
use Rattle.cw_log.proofs.writing.write_texts.Goals as goal

pub all-init : goal.all-init
all-init g c = none-written (source_of c.args.source.now) c.args.texts.now c.args.work.now.names.now
    (g.D.Desk.told c.args.desk.now) c.requires.whole

pub returns-in_err-text : goal.returns-in_err-text
returns-in_err-text g c = written-wanting _ _ _ _ _ _ _ c.all.invariant c.from_residual.ensures.1

pub write_text-requires-clause-whole : goal.write_text-requires-clause-whole
write_text-requires-clause-whole g c =
    let gives : c.all.texts ≡ c.in-Some.text ∷ c.next.new.self = subst
    (λ (next : Option TextRef). GivesRef c.all.texts next c.next.new.self) c.in-Some.is c.in_ok-text.ensures.gives in
    text-whole _ _ _ _ _ _ _ _ _ c.all.invariant gives

pub all-preserved : goal.all-preserved
all-preserved g c =
    let gives : c.all.texts ≡ c.in-Some.text ∷ c.next.new.self = subst
    (λ (next : Option TextRef). GivesRef c.all.texts next c.next.new.self) c.in-Some.is c.in_ok-text.ensures.gives in
    written-more _ _ _ _ _ _ _ _ _ c.all.invariant gives c.write_text.new.work.names.now
    c.in_ok-write_text-in-Some.ensures.names c.in_ok-write_text-in-Some.ensures.written

pub returns-in_err-write_text-in-Some : goal.returns-in_err-write_text-in-Some
returns-in_err-write_text-in-Some g c =
    let gives : c.all.texts ≡ c.in-Some.text ∷ c.next.new.self = subst
    (λ (next : Option TextRef). GivesRef c.all.texts next c.next.new.self) c.in-Some.is c.in_ok-text.ensures.gives in
    written-refused _ _ _ _ _ _ _ _ _ c.all.invariant gives c.in_err-write_text-in-Some.ensures.written
    c.from_residual-in_err-write_text-in-Some.ensures.1

pub returns-in-None : goal.returns-in-None
returns-in-None g c =
    let gives : GivesRef c.all.texts None c.next.new.self = subst
    (λ (next : Option TextRef). GivesRef c.all.texts next c.next.new.self) c.in-None.is c.in_ok-text.ensures.gives in
    written-all _ _ _ _ _ _ _ c.all.invariant _ gives.0
