-- A name more is marked, and the others stay marked; nothing refers to it.
use Rattle.std.proofs.Common.{List, map, refl, ◌∙◌, sym, subst}
use Rattle.cw_secnames.specs.{declared.sec_names.KeptName.KeptName, model.Inside.name_of, model.Sound.AreSound}
use Rattle.cw_secnames.proofs.NamedMarks.{named-more, named-behind}
use Rattle.cw_secnames.proofs.{Nearest.marked-as, References.ascending-behind}
use Rattle.cw_secnames.proofs.sec_names.SecNames.add.Goals as goal

pub invariant_of-self : goal.invariant_of-self
invariant_of-self c = record {
  marked = named-more _ _ 0 _ c.enter.ensures.keeps c.self.invariant.marked;
  ascending = c.self.invariant.ascending;
}

pub invariant_of-self-in_err-text : goal.invariant_of-self-in_err-text
invariant_of-self-in_err-text c = record {
  marked = named-more _ _ 0 _ c.enter.ensures.keeps c.self.invariant.marked;
  ascending = c.self.invariant.ascending;
}

pub invariant_of-self-in_err-push : goal.invariant_of-self-in_err-push
invariant_of-self-in_err-push c = subst (λ (xs : List KeptName). AreSound c.enter.new.self (map name_of xs))
    (sym c.in_err-push.ensures.items) (record {
      marked = named-more _ _ 0 _ c.enter.ensures.keeps c.self.invariant.marked;
      ascending = c.self.invariant.ascending;
    })

pub invariant_of-self-2 : goal.invariant_of-self-2
invariant_of-self-2 c = subst (λ (xs : List KeptName). AreSound c.enter.new.self (map name_of xs))
    (sym c.in_ok-push.ensures.items) (record {
      marked = named-behind _ 0 c.self.inside.names.items _
          (named-more _ _ 0 _ c.enter.ensures.keeps c.self.invariant.marked) (λ live. marked-as _ _ _ _ _ _ _ refl
          c.in_ok-text.ensures.items (c.len-index.ensures ∙ c.self.inside.names.ok.0) (c.in_ok-enter.ensures.ok live));
      ascending = ascending-behind c.self.inside.names.items _ c.self.invariant.ascending (tt, tt, tt);
    })
