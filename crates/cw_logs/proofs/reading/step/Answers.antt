-- Each kind of line leads on.
use Rattle.cw_logs.proofs.Terms.{◌≡◌, ◌-◌, suc, sym, subst, rules, arith, codes, Outside, Inside, HasHead, HasItem}
use Rattle.cw_logs.proofs.Terms.{HasLeaf, with_names, Step, opens, leaf, item, closes}
use Rattle.cw_logs.proofs.reading.step.Goals as goal

pub returns-then-eq : goal.returns-then-eq
returns-then-eq c =
    let spot : c.args.spot ≡ Inside 0 = search rules in
    let line : c.args.line.now ≡ codes "end" = search rules in
    subst (λ s. Step s c.args.line.now Outside) (sym spot) (closes c.args.line.now line)

pub returns-in_ok-count-in-Outside : goal.returns-in_ok-count-in-Outside
returns-in_ok-count-in-Outside c =
    let spot : c.args.spot ≡ Outside = search rules in
    let head : HasHead c.args.line.now c.in_ok-count-in-Outside.count = search rules in
    subst (λ s. Step s c.args.line.now (Inside c.in_ok-count-in-Outside.count)) (sym spot)
    (opens c.args.line.now c.in_ok-count-in-Outside.count head.few head.is)

pub returns-in_ok-item_in-in-Inside-eq0 : goal.returns-in_ok-item_in-in-Inside-eq0
returns-in_ok-item_in-in-Inside-eq0 c =
    let spot : c.args.spot ≡ Inside 0 = search rules in
    let found : HasItem c.args.line.now c.in_ok-item_in-in-Inside-eq0.field-0 = search rules in
    subst (λ s. Step s c.args.line.now s) (sym spot) (item c.args.line.now _ found.fine found.is)

pub returns-in_ok-leaf_in-in-Inside : goal.returns-in_ok-leaf_in-in-Inside
returns-in_ok-leaf_in-in-Inside c =
    let spot : c.args.spot ≡ Inside c.in-Inside.to_come = search rules in
    let one : suc (c.in-Inside.to_come - 1) ≡ c.in-Inside.to_come = grind (arith, c.in-Inside.to_come-test) in
    let found : HasLeaf c.args.line.now c.in_ok-leaf_in-in-Inside.field-0 = search rules in
    subst (λ s. Step s c.args.line.now (Inside (c.in-Inside.to_come - 1)))
    (sym spot) (subst (λ n. Step (Inside n) c.args.line.now (Inside (c.in-Inside.to_come - 1))) one
    (leaf _ (c.in-Inside.to_come - 1) (with_names c.in_ok-leaf_in-in-Inside.field-0 found.names) found.fine found.is))
