-- The leaf lines before this one are appended.
use Rattle.cw_logs.proofs.Terms.{◌≡◌, ◌++◌, map, take, flat_map, spelled, ended, line_text}
use Rattle.cw_logs.proofs.writing.append_leaves.Given as goal

abbrev pub invariant-loop-leaf : goal.invariant-loop-leaf
invariant-loop-leaf l =
    l.text ≡ l.fn.text ++ flat_map ended (map line_text (map (spelled l.names) (take l.leaf-index l.leaves)))
