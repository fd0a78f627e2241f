-- The names before this one are appended.
use Rattle.cw_logs.proofs.Terms.{◌≡◌, ◌++◌, map, take, flat_map, text_at, blank_and}
use Rattle.cw_logs.proofs.writing.append_names.Given as goal

abbrev pub invariant-loop-id : goal.invariant-loop-id
invariant-loop-id l =
    l.text ≡ l.fn.text ++ flat_map blank_and (map (λ id. text_at l.names id.index) (take l.id-index l.ids))
