-- A pair with a greater place keeps the order.
use Rattle.std.proofs.Common.{◌<◌, All, subst, sym}
use Rattle.cw_secnames.specs.{model.InsideUses.AreAscending, Uses.NameUse}
use Rattle.cw_secnames.proofs.Using.{ascending-more}
use Rattle.cw_secnames.proofs.name_uses.NameUses.add.Goals as goal

pub invariant_of-self-2 : goal.invariant_of-self-2
invariant_of-self-2 c = subst AreAscending (sym c.in_ok-push.ensures.items)
    (ascending-more c.self.inside.pairs.items (record { place = c.args.place; name = c.args.id.index }) c.self.invariant
    (subst (All (λ (u : NameUse). u.place < c.args.place)) (sym c.self.view_is) c.requires))
