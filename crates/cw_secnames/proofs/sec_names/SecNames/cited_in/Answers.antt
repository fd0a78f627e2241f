-- What refers to each kept name ascends.
use Rattle.std.proofs.Common.{sym, subst, ap, length, arith}
use Rattle.cw_secnames.specs.declared.{kinds.RefKind.TheVariants.Cited, sec_names.KeptName.KeptName}
use Rattle.cw_secnames.specs.{model.Inside.name_of, References.Ascend, References.RefersAscending}
use Rattle.cw_secnames.proofs.{Finding.length-named, References.ascending-at, References.ascending-in}
use Rattle.cw_secnames.proofs.sec_names.SecNames.cited_in.Goals as goal

pub returns-clause-ascending : goal.returns-clause-ascending
returns-clause-ascending c = subst Ascend (sym c.listed.ensures)
    (ascending-in Cited c.index.result.now (subst (λ (x : KeptName). RefersAscending (name_of x)) (sym c.index.ensures)
    (ascending-at c.self.inside.names.items c.args.id.index c.index.result.now c.self.invariant.ascending
    (omega (arith, length-named c.self.inside.names.items, ap length c.self.view_is, c.requires)))))
