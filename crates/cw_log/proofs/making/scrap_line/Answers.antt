-- Each leaf line makes a scrap more.
use Rattle.cw_log.proofs.Terms.{◌++◌, ◌∷◌, [], take, sym, ◌∙◌, ap, subst, take_more, spelled, IsFineLine}
use Rattle.cw_scraps.proofs.Changings.{tied-idle}
use Rattle.cw_log.proofs.MadeLines.{MadeSoFar, fine-at, idents-at, one-made, some-word}
use Rattle.cw_log.proofs.making.scrap_line.Goals as goal

pub add-requires : goal.add-requires
add-requires c = λ e.
    let fine : IsFineLine (spelled c.args.names.now c.leaf-item.result) = fine-at c.args.names.now c.args.leaves.now
    c.loop-leaf.leaf-index c.leaf-item.result c.loop-leaf-test.true c.leaf-item.is c.requires.fine in
    fine.real (sym c.in_ok-made.ensures.form.cat ∙ e)

pub loop-leaf-preserved : goal.loop-leaf-preserved
loop-leaf-preserved c =
    let i = c.loop-leaf.leaf-index in
    let leaf = c.leaf-item.result in
    let new = c.put_leaf.new.store in
    subst (λ ls. MadeSoFar c.args.names.now new c.add.new.self ls) (sym (take_more c.args.leaves.now i leaf
    c.loop-leaf-test.true ∙ ap (λ l. take i c.args.leaves.now ++ l ∷ []) (sym c.leaf-item.is))) (subst (λ line.
    MadeSoFar c.args.names.now new line (take i c.args.leaves.now ++ leaf ∷ [])) (sym c.in_ok-add.ensures.ok) (one-made
    c.args.names.now c.loop-leaf.store new c.loop-leaf.line (take i c.args.leaves.now) leaf c.in_ok-made.made (record
    { index = 0 }) (some-word c.args.names.now c.len-words.ensures.words) (idents-at c.args.names.now c.args.leaves.now
    i leaf c.loop-leaf-test.true c.leaf-item.is c.requires.idents) (fine-at c.args.names.now c.args.leaves.now i leaf
    c.loop-leaf-test.true c.leaf-item.is c.requires.fine) c.in_ok-made.ensures.form (tied-idle c.loop-leaf.store
    c.loop-leaf.invariant.sound.idle c.tied_law.ensures) c.put_leaf.ensures.idle c.loop-leaf.invariant))
