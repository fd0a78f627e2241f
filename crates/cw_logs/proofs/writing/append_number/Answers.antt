-- One digit, or two.
use Rattle.cw_logs.proofs.Terms.{ℕ, ◌+◌, ◌%◌, [], ◌∷◌, ◌++◌, List, ap, arith, ◌∙◌, decimal_digit, decimal_step}
use Rattle.cw_logs.proofs.writing.append_number.Goals as goal

pub returns-then-number-lt10-clause-ok : goal.returns-then-number-lt10-clause-ok
returns-then-number-lt10-clause-ok c = rw (decimal_digit c.args.number c.if-number-lt10.true) c.push.ensures.ok

pub returns-then-number-lt100-clause-ok : goal.returns-then-number-lt100-clause-ok
returns-then-number-lt100-clause-ok c =
    let two = decimal_step c.args.number c.if-number-lt10.false (omega (arith, c.if-number-lt100.true)) ∙ ap
    (λ (ds : List ℕ). ds ++ (48 + c.args.number % 10) ∷ []) (decimal_digit _ (omega (arith, c.if-number-lt100.true))) in
    rw two c.append.ensures.ok
