-- The file is judged as far as it is read.
use Rattle.cw_logs.proofs.Terms.{◌≡◌, [], subst, rules, arith, common_steps, Outside, Inside}
use Rattle.cw_logs.proofs.Judging.{ReadSoFar, nothing-read, one-more, stuck-here, whole-read, cut-inside}
use Rattle.cw_logs.proofs.reading.judge.Goals as goal

pub loop-rest-init : goal.loop-rest-init
loop-rest-init c = record { few = omega arith; read = nothing-read c.args.file.now }

pub returns-in-None : goal.returns-in-None
returns-in-None c = stuck-here _ c.loop-rest.rest.now c.cut_line-cut.result.word.now c.cut_line-cut.result.rest.now
    c.loop-rest.spot c.loop-rest.line c.loop-rest.invariant.read c.cut_line-cut.ensures c.in-None.ensures

pub loop-rest-preserved : goal.loop-rest-preserved
loop-rest-preserved c = record {
  few = omega (arith, c.loop-rest.invariant.few, c.cut_line-cut.ensures.shorter);
  read = one-more _ _ _ _ c.loop-rest.spot _ _ c.loop-rest.invariant.read c.cut_line-cut.ensures c.in-Some.ensures;
}

pub returns-in-Outside : goal.returns-in-Outside
returns-in-Outside c =
    let rest : c.loop-rest.rest.now ≡ [] = grind (arith, common_steps) in
    let spot : c.loop-rest.spot ≡ Outside = search rules in
    whole-read _ c.loop-rest.line (subst (λ r. ReadSoFar c.args.file.now r Outside c.loop-rest.line) rest
    (subst (λ s. ReadSoFar c.args.file.now c.loop-rest.rest.now s c.loop-rest.line) spot c.loop-rest.invariant.read))

pub returns-in-Inside : goal.returns-in-Inside
returns-in-Inside c =
    let rest : c.loop-rest.rest.now ≡ [] = grind (arith, common_steps) in
    let spot : c.loop-rest.spot ≡ Inside c.in-Inside.field-0 = search rules in
    cut-inside c.args.file.now c.in-Inside.field-0 c.loop-rest.line
    (subst (λ r. ReadSoFar c.args.file.now r (Inside c.in-Inside.field-0) c.loop-rest.line) rest
    (subst (λ s. ReadSoFar c.args.file.now c.loop-rest.rest.now s c.loop-rest.line) spot c.loop-rest.invariant.read))
