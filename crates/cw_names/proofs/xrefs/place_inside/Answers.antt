-- The sections that a binary search leaves behind are below, and no other is.
use Rattle.cw_names.proofs.Terms.{rules, ltb, IsPartitionPoint-from_clause, SectionRef}
use Rattle.cw_names.proofs.Mentions.{IsPoint, parted, point-before, point-behind}
use Rattle.cw_names.proofs.xrefs.place_inside.Goals as goal

pub returns-clause-before : goal.returns-clause-before
unfolding IsPoint
returns-clause-before c =
    let there : IsPoint c.args.section c.args.list.now c.partition_point.result = IsPartitionPoint-from_clause
    (λ (m : SectionRef). ltb m.section c.args.section) _ _ c.partition_point.ensures.partitioned
    (parted c.args.section c.args.list.now c.requires) (λ a r q k. search rules) in
    point-before c.args.section c.args.list.now c.partition_point.result there c.partition_point.ensures.bound

pub returns-clause-behind : goal.returns-clause-behind
unfolding IsPoint
returns-clause-behind c =
    let there : IsPoint c.args.section c.args.list.now c.partition_point.result = IsPartitionPoint-from_clause
    (λ (m : SectionRef). ltb m.section c.args.section) _ _ c.partition_point.ensures.partitioned
    (parted c.args.section c.args.list.now c.requires) (λ a r q k. search rules) in
    point-behind c.args.section c.args.list.now c.partition_point.result there
