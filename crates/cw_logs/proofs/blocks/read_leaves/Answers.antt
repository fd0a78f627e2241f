-- While leaf lines are to come, the next line is one.
use Rattle.cw_logs.proofs.Terms.{◌≡◌, [], ◌∷◌, ◌++◌, ◌+◌, ◌-◌, ◌∙◌, suc, List, ap, length, length-append, rules}
use Rattle.cw_logs.proofs.Terms.{arith, subst, sym, LeafLine, HasLeafLine}
use Rattle.cw_logs.proofs.Adding.{both-added, none-added}
use Rattle.cw_logs.proofs.BlockSteps.{LeavesSoFar, block-goes-on, leaf-there, no-leaves, one-leaf, read-cut}
use Rattle.cw_logs.proofs.blocks.read_leaves.Goals as goal

pub loop-init : goal.loop-init
loop-init c = let none_read : c.args.count - 0 ≡ c.args.count = omega arith in grind (arith, none-added, no-leaves)

pub cut_line-cut-requires : goal.cut_line-cut-requires
cut_line-cut-requires c = block-goes-on _ c.loop.rest.now c.loop.invariant.read.later

pub read_leaf-requires : goal.read_leaf-requires
read_leaf-requires c =
    let left :
    c.args.count - c.loop.counter ≡ suc (c.args.count - (c.loop.counter + 1)) = omega (arith, c.loop-test.true) in
    let so_far : LeavesSoFar c.args.names.now c.loop.names c.args.text.now
    c.loop.leaves.items c.loop.rest.now (suc (c.args.count - (c.loop.counter + 1))) = subst (λ n. LeavesSoFar
    c.args.names.now c.loop.names c.args.text.now c.loop.leaves.items c.loop.rest.now n) left c.loop.invariant.read in
    grind (arith, leaf-there, read-cut)

pub returns-in_err-leaf-clause-kept : goal.returns-in_err-leaf-clause-kept
returns-in_err-leaf-clause-kept c = grind (arith, both-added)

pub returns-in_err-push-clause-kept : goal.returns-in_err-push-clause-kept
returns-in_err-push-clause-kept c = grind (arith, both-added)

pub loop-preserved : goal.loop-preserved
loop-preserved c =
    let left : c.args.count - c.loop.counter ≡ suc (c.args.count - (c.loop.counter + 1)) =
    omega (arith, c.loop-test.true) in
    let so_far : LeavesSoFar c.args.names.now c.loop.names c.args.text.now c.loop.leaves.items c.loop.rest.now
    (suc (c.args.count - (c.loop.counter + 1))) = subst (λ n. LeavesSoFar c.args.names.now c.loop.names c.args.text.now
    c.loop.leaves.items c.loop.rest.now n) left c.loop.invariant.read in
    let pushed : c.push.new.self.items ≡ c.loop.leaves.items ++ c.in_ok-leaf.leaf ∷ [] = search rules in
    let found : HasLeafLine c.loop.names c.read_leaf.new.names c.cut_line-cut.result.word.now c.in_ok-leaf.leaf =
    search rules in
    record {
      kept = both-added c.args.names.now c.loop.names c.read_leaf.new.names c.loop.invariant.kept
          c.read_leaf.ensures.kept;
      many = ap (λ (ls : List LeafLine). length ls) pushed
          ∙ (length-append c.loop.leaves.items (c.in_ok-leaf.leaf ∷ []) ∙ ap (λ n. n + 1) c.loop.invariant.many);
      read = subst (λ ls. LeavesSoFar c.args.names.now c.read_leaf.new.names c.args.text.now ls
          c.cut_line-cut.result.rest.now (c.args.count - (c.loop.counter + 1))) (sym pushed)
          (one-leaf c.args.names.now c.loop.names c.read_leaf.new.names c.args.text.now c.loop.rest.now
          c.cut_line-cut.result.word.now c.cut_line-cut.result.rest.now c.loop.leaves.items c.in_ok-leaf.leaf
          (c.args.count - (c.loop.counter + 1)) so_far c.cut_line-cut.ensures c.read_leaf.ensures.kept found);
    }

pub returns-clause-kept : goal.returns-clause-kept
returns-clause-kept c = c.loop.invariant.kept

pub returns-clause-ok : goal.returns-clause-ok
returns-clause-ok c = grind arith
