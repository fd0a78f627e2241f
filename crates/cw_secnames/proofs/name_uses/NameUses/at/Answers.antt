-- The first pair that doesn't stand before a place has it, or none has.
use Rattle.std.proofs.Common.{◌∙◌, sym, ap, subst, rules, arith}
use Rattle.std.{proofs.Math.Dec.ltb, specs.Option.option_map, proofs.lemmas.List.Sorted.IsPartitionPoint-from_clause}
use Rattle.cw_secnames.specs.{Kept.id, Uses.name_at, model.InsideUses.AreAscending, declared.name_uses.Pair.Pair}
use Rattle.cw_secnames.proofs.Using.{IsPoint, parted, point-below, at-first, nowhere-by}
use Rattle.cw_secnames.proofs.name_uses.NameUses.at.Goals as goal

pub returns-then-pair-place : goal.returns-then-pair-place
unfolding IsPoint
returns-then-pair-place c = grind (arith, parted, at-first, point-below)

pub returns-else-pair-place : goal.returns-else-pair-place
unfolding IsPoint
returns-else-pair-place c =
    let ascending : AreAscending c.deref.result.now = subst AreAscending (sym c.deref.ensures.value) c.self.invariant in
    let there : IsPoint c.args.place c.deref.result.now c.partition_point-first.result = IsPartitionPoint-from_clause
    (λ (p : Pair). ltb p.place c.args.place) _ _ c.partition_point-first.ensures.partitioned
    (parted c.args.place c.deref.result.now ascending) (λ a r q k. search rules) in
    let point : IsPoint c.args.place c.self.inside.pairs.items c.partition_point-first.result =
    subst (λ pairs. IsPoint c.args.place pairs c.partition_point-first.result) c.deref.ensures.value there in
    sym (ap (option_map id) (nowhere-by c.args.place c.self.inside.pairs.items c.partition_point-first.result
    c.index-pair.result.now c.self.invariant point (λ _ same. c.if-pair-place.false (ap (λ (p : Pair). p.place)
    c.index-pair.ensures ∙ same)))) ∙ ap (λ uses. option_map id (name_at c.args.place uses)) c.self.view_is

pub returns-else-first-len : goal.returns-else-first-len
unfolding IsPoint
returns-else-first-len c =
    let ascending : AreAscending c.deref.result.now = subst AreAscending (sym c.deref.ensures.value) c.self.invariant in
    let there : IsPoint c.args.place c.deref.result.now c.partition_point-first.result = IsPartitionPoint-from_clause
    (λ (p : Pair). ltb p.place c.args.place) _ _ c.partition_point-first.ensures.partitioned
    (parted c.args.place c.deref.result.now ascending) (λ a r q k. search rules) in
    let point : IsPoint c.args.place c.self.inside.pairs.items c.partition_point-first.result =
    subst (λ pairs. IsPoint c.args.place pairs c.partition_point-first.result) c.deref.ensures.value there in
    let no_pair : Pair = record { place = 0; name = 0 } in
    sym (ap (option_map id) (nowhere-by c.args.place c.self.inside.pairs.items c.partition_point-first.result no_pair
    c.self.invariant point (λ within same. omega (
      arith,
      c.if-first-len.false,
      c.len.ensures,
      c.self.inside.pairs.ok.0,
    )))) ∙ ap (λ uses. option_map id (name_at c.args.place uses)) c.self.view_is
