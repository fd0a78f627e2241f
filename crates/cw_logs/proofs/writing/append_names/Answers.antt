-- After Memory a beginning of the names is appended.
use Rattle.cw_logs.proofs.Terms.{◌≡◌, [], ◌∷◌, ◌++◌, IsErr, rules, NameId, text_at, blank_and}
use Rattle.cw_logs.proofs.AppendLaws.{nothing-grown, next-refused, blank-grown}
use Rattle.cw_logs.proofs.writing.append_names.Goals as goal

abbrev no_name : NameId
no_name = record { index = 0 }

pub returns-in_err-push : goal.returns-in_err-push
returns-in_err-push c =
    let err : IsErr c.from_residual.result = search rules in
    let same : c.push.new.self ≡ c.loop-id.text = search rules in
    next-refused (λ id. text_at c.args.names.now id.index) blank_and
    c.args.ids.now c.loop-id.id-index no_name c.args.text.now c.loop-id.text c.push.new.self c.from_residual.result
    c.loop-id-test.true err c.loop-id.invariant (nothing-grown _ c.loop-id.text c.push.new.self same)

pub returns-in_err-append : goal.returns-in_err-append
returns-in_err-append c =
    let err : IsErr c.from_residual-in_err-append.result = search rules in
    let blank : c.push.new.self ≡ c.loop-id.text ++ 32 ∷ [] = search rules in
    let same : c.append.new.self ≡ c.push.new.self = search rules in
    next-refused (λ id. text_at _ id.index) blank_and _ _ no_name c.args.text.now c.loop-id.text
    _ _ c.loop-id-test.true err c.loop-id.invariant (blank-grown _ c.loop-id.text c.push.new.self _ blank same)
