-- A line that is no production is the block's end.
use Rattle.cw_logs.proofs.Terms.{◌≡◌, [], ◌∷◌, ◌++◌, ◌∙◌, ap, map, rules, subst, sym, map-append, HasItems, HasItem}
use Rattle.cw_logs.proofs.Terms.{NoItem}
use Rattle.cw_logs.proofs.BlockSteps.{ItemsSoFar, items-go-on, one-item, all-items}
use Rattle.cw_logs.proofs.blocks.read_items.Goals as goal

pub cut_line-cut-requires-in-Some : goal.cut_line-cut-requires-in-Some
cut_line-cut-requires-in-Some c =
    let found : HasItem c.loop-item.cut.word.now c.in-Some.item = search rules in
    items-go-on c.args.text.now c.loop-item.cut.word.now _ (map _ _) _ found.is c.loop-item.invariant

pub loop-item-preserved : goal.loop-item-preserved
loop-item-preserved c =
    let found : HasItem c.loop-item.cut.word.now c.in-Some.item = search rules in
    let pushed : c.push.new.self.items ≡ c.loop-item.items.items ++ c.in-Some.item ∷ [] = search rules in
    subst (λ ps. ItemsSoFar c.args.text.now ps c.cut_line-cut-in-Some.result.word.now
    c.cut_line-cut-in-Some.result.rest.now) (sym (ap (map _) pushed ∙ map-append _ _ _))
    (one-item _ _ _ _ _ (map _ _) _ found.fine found.is c.loop-item.invariant c.cut_line-cut-in-Some.ensures)

pub returns : goal.returns
returns c =
    let lack : NoItem c.loop-item.cut.word.now = search rules in
    let all = all-items _ _ _ (map _ _) lack c.loop-item.invariant in
    subst (λ items. HasItems c.args.text.now (record { items = items; rest = c.loop-item.cut.rest }))
    (sym c.from_vec.ensures) (record { fine = all.fine; is = all.is; later = all.later; shorter = all.shorter })
