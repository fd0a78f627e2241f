-- The text of all items of a list, from the start.
use Rattle.cw_plain.proofs.Terms.{ap, ◌∙◌, items_are, unfolded, flat, plain_tree, source_by, source_of}
use Rattle.cw_plain.proofs.WalkingLaws.{all-plain}
use Rattle.cw_plain.proofs.translated.plain_answers.Goals as goal

pub returns : goal.returns
returns c =
    let tree = unfolded c.args.store.now.lists c.args.id.index in
    all-plain (source_of c.over-plainer.result.reads) c.over-plainer.result.walk (items_are c.items.result.now)
    (flat tree) _ _ c.over-plainer.ensures.walk (ap items_are c.items.ensures
    ∙ c.in_ok-flat.ensures.items) c.new_in-out.ensures c.in_ok-items.ensures ∙ (λ i. plain_tree
    (source_by (c.over-plainer.ensures.answers i) (c.over-plainer.ensures.kept i) (c.over-plainer.ensures.uses i)) tree)
