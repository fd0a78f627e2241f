-- The scrap of the first token, and what comes behind it, are the text, which has no head.
use Rattle.cw_reduce.proofs.Terms.{[], inr, refl, arith, Ok, seen, marked_names, tied-idle, with_texts, of_leaf}
use Rattle.cw_reduce.proofs.Terms.{of_nothing, progress_over, texts_in, token-advances, recorded-refused, ends-refused}
use Rattle.cw_reduce.proofs.Terms.{ends-then, empty-line, leaf-step}
use Rattle.cw_translator.specs.Reading.{after_token}
use Rattle.cw_reduce.proofs.AloneSteps.{first-ends, first-start}
use Rattle.cw_reduce.proofs.NameSteps.{head-translating}
use Rattle.cw_reduce.proofs.Joined.{texts-nested}
use Rattle.cw_reduce.proofs.alone.translate_from.Goals as goal

pub translate_rest-requires-clause-translating : goal.translate_rest-requires-clause-translating
translate_rest-requires-clause-translating g c = (leaf-step c.args.token.now.kind (seen c.args.token.now)
    c.args.work.now.store.now c.scrap_of.new.store c.args.work.now.names.now c.scrap_of.new.names of_nothing
    (of_leaf c.in_ok-leaf.leaf) c.in_ok-leaf.leaf (head-translating c.args.work.now.store.now c.args.work.now.names.now
    of_nothing [] refl (empty-line c.args.work.now.store.now c.args.work.now.names.now c.requires.idle))
    (tied-idle c.args.work.now.store.now c.requires.idle c.tied_law.ensures) c.requires.makes c.in_ok-leaf.ensures.idle
    c.in_ok-leaf.ensures.form c.in_ok-leaf.ensures.names c.in_ok-leaf.ensures.sound refl
    (record { scraps = refl; productions = refl })).steps.translating

pub translate_rest-requires-clause-sound : goal.translate_rest-requires-clause-sound
translate_rest-requires-clause-sound g c = c.in_ok-leaf.ensures.sound []
    (empty-line c.args.work.now.store.now c.args.work.now.names.now c.requires.idle)

pub returns-clause-text : goal.returns-clause-text
returns-clause-text g c =
    let step = (leaf-step c.args.token.now.kind (seen c.args.token.now) c.args.work.now.store.now c.scrap_of.new.store
    c.args.work.now.names.now c.scrap_of.new.names of_nothing (of_leaf c.in_ok-leaf.leaf) c.in_ok-leaf.leaf
    (head-translating c.args.work.now.store.now c.args.work.now.names.now of_nothing [] refl (empty-line
    c.args.work.now.store.now c.args.work.now.names.now c.requires.idle)) (tied-idle c.args.work.now.store.now
    c.requires.idle c.tied_law.ensures) c.requires.makes c.in_ok-leaf.ensures.idle c.in_ok-leaf.ensures.form
    c.in_ok-leaf.ensures.names c.in_ok-leaf.ensures.sound refl (record { scraps = refl; productions = refl })) in
    first-ends c.args.context.now.flags.now (texts_in c.args.context.now) (texts-nested c.args.context.now.sec_names.now
    c.args.context.now.uses.now) c.args.work.now.store.now.lists c.args.work.now.names.now (marked_names
    c.args.work.now.marks.now) c.args.token.now c.requires.makes c.args.reader.now.coming c.requires.nested
    (after_token c.args.token.now.kind (seen c.args.token.now) (progress_over c.args.work.now of_nothing)) refl
    (ends-then (with_texts (texts_in c.args.context.now) c.args.reader.now.coming) (token-advances {T = Unit {0}}
    c.args.context.now.flags.now (seen c.args.token.now) {result = Ok tt} step.steps.translating step.progress
    (record { scraps = refl; productions = refl }) step.steps.keeps (inr c.in_ok-leaf.ensures.names) refl refl refl
    (record { names = refl; store = refl; marks = refl; steps = refl }) c.in_ok-leaf.ensures.idle)
    c.translate_rest.ensures.text)

pub returns-in_err-leaf-clause-text : goal.returns-in_err-leaf-clause-text
returns-in_err-leaf-clause-text g c = ends-refused c.from_residual.ensures.1
    (rw c.in_err-leaf.ensures.no_names (first-start c.args.context.now.flags.now (texts_in c.args.context.now)
    (texts-nested c.args.context.now.sec_names.now c.args.context.now.uses.now) c.args.work.now.store.now.lists
    c.args.work.now.names.now (marked_names c.args.work.now.marks.now) c.args.token.now c.requires.makes
    c.args.reader.now.coming c.requires.nested)) (recorded-refused _ _ c.from_residual.ensures.1) (omega arith)
    (record { names = refl; store = refl; marks = refl; steps = refl }) c.in_err-leaf.ensures.idle
