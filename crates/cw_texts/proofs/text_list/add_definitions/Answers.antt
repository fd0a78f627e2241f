-- One definition goes behind those before.
use Rattle.cw_texts.proofs.Terms.{ap, [], ◌∷◌, ◌++◌, List, length, arith, not_silent, definition_ref, definition_refs}
use Rattle.cw_texts.specs.{declared.definitions.Definition.Definition, model.DefinitionForms.loud}
use Rattle.cw_texts.proofs.RefLaws.{added, all-added}
use Rattle.cw_texts.proofs.text_list.add_definitions.Goals as goal

pub printed-init : goal.printed-init
printed-init c = ap (λ (ds : List Definition). c.args.list.now ++ definition_refs c.args.number (not_silent ds))
    c.over-definitions.ensures

pub printed-preserved : goal.printed-preserved
printed-preserved c = added c.printed.list (definition_ref c.args.number (loud c.in-Some.span) ∷ [])
    (definition_refs c.args.number (not_silent c.next_printed.new.self)) c.in_ok-push-in-Some.ensures
    (ap (definition_refs c.args.number) c.in-Some.ensures) c.printed.invariant

pub printed-smaller : goal.printed-smaller
printed-smaller c = omega (arith, ap length c.in-Some.ensures)

pub returns-in-None : goal.returns-in-None
returns-in-None c = all-added (ap (definition_refs c.args.number) c.in-None.ensures) c.printed.invariant
