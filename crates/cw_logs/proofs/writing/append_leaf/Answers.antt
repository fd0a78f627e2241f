-- After Memory a beginning of the line is appended.
use Rattle.cw_logs.proofs.Terms.{◌≡◌, [], ◌∷◌, ◌++◌, IsErr, rules, flat_map, spelled, HasGrown, blank_and, cat_text}
use Rattle.cw_logs.proofs.Terms.{letter}
use Rattle.cw_logs.proofs.AppendLaws.{names-refused}
use Rattle.cw_logs.proofs.writing.append_leaf.Goals as goal

pub returns-in_err-append_names : goal.returns-in_err-append_names
returns-in_err-append_names c =
    let err : IsErr c.from_residual-in_err-append_names.result = search rules in
    let once : c.append.new.self ≡ c.args.text.now ++ letter c.args.leaf.now.kind ∷ 32 ∷ [] = search rules in
    let mid : c.append-2.new.self ≡ c.append.new.self ++ cat_text c.args.leaf.now.cat = search rules in
    let some : HasGrown (flat_map blank_and (spelled c.args.names.now c.args.leaf.now).names)
    c.append-2.new.self c.append_names.new.text = rw (← c.as_slice.ensures) c.in_err-append_names.ensures.err in
    names-refused (spelled _ _) _ _ _ c.append_names.new.text _ err once mid some
