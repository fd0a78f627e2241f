-- The name in the list gets what the name in memory gets.
use Rattle.std.proofs.Common.{◌∙◌, ap, sym, subst, length, arith}
use Rattle.cw_secnames.specs.{declared.sec_names.KeptName.KeptName, model.Inside.name_of, model.Sound.AreSound}
use Rattle.cw_secnames.specs.References.{RefersAscending, with_section}
use Rattle.cw_secnames.proofs.NamedMarks.{named-with_reference}
use Rattle.cw_secnames.proofs.Finding.{same-map, reference-map, length-named, length-with_reference}
use Rattle.cw_secnames.proofs.References.{ascending-at, ascending-with_reference}
use Rattle.cw_secnames.proofs.sec_names.SecNames.add_ref.Goals as goal

pub returns-in_err-add_ref-clause-err : goal.returns-in_err-add_ref-clause-err
returns-in_err-add_ref-clause-err c = grind (arith, same-map)

pub returns-clause-ok : goal.returns-clause-ok
returns-clause-ok c = grind (arith, reference-map)

pub returns-clause-len : goal.returns-clause-len
returns-clause-len c = grind (arith, returns-clause-ok, length-with_reference)

pub add_ref-requires : goal.add_ref-requires
add_ref-requires c = subst (λ (x : KeptName). RefersAscending (name_of x)) (sym c.index_mut.ensures.value)
    (ascending-at c.self.inside.names.items c.args.id.index c.index_mut.result.now c.self.invariant.ascending
    (omega (arith, length-named c.self.inside.names.items, ap length c.self.view_is, c.requires)))

pub invariant_of-self : goal.invariant_of-self
invariant_of-self c = grind (arith, same-map)

pub invariant_of-self-2 : goal.invariant_of-self-2
invariant_of-self-2 c = subst (AreSound c.self.inside.marks) (sym (reference-map c.self.inside.names.items
    c.args.id.index _ c.add_ref.new.self c.args.how c.args.section (c.in_ok-add_ref.ensures.ok
    ∙ ap (λ n. with_section c.args.how c.args.section (name_of n)) c.index_mut.ensures.value))) (record {
      marked = named-with_reference c.self.inside.marks 0 c.args.id.index c.args.how c.args.section _
          c.self.invariant.marked;
      ascending = ascending-with_reference c.args.id.index c.args.how c.args.section _ c.self.invariant.ascending;
    })
