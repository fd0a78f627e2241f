-- The next output is taken, and is the first one that is, or it isn't, and those behind it decide.
use Rattle.std.proofs.Common.{◌≡◌, ◌<◌, ◌||◌, ℕ, true, false, List, Some, length, sym, ap, ◌∙◌, arith, take, subst}
use Rattle.cw_input.specs.Overwriting.{is_among}
use Rattle.cw_input.proofs.OutputLaws.{next-is_taken, next-overwrites}
use Rattle.cw_input.proofs.outputs.first_overwriting.Goals as goal

pub returns-then-is_taken : goal.returns-then-is_taken
returns-then-is_taken c =
    let within : c.loop-number.number < length c.args.outputs.now =
    omega (arith, c.loop-number-test.true, c.len-number-end.ensures) in
    ap Some c.word-name.ensures ∙ next-overwrites c.loop-number.number c.args.web.now.files c.args.outputs.now _ within
    (subst (λ (name : List ℕ). (is_among c.args.web.now.files name
    || is_among (take c.loop-number.number c.args.outputs.now) name) ≡ true) c.word-name.ensures
    (sym c.is_taken.ensures ∙ c.if-is_taken.true)) c.loop-number.invariant

pub loop-number-preserved : goal.loop-number-preserved
loop-number-preserved c =
    let within : c.loop-number.number < length c.args.outputs.now =
    omega (arith, c.loop-number-test.true, c.len-number-end.ensures) in
    next-is_taken c.loop-number.number c.args.web.now.files c.args.outputs.now _ within
    (subst (λ (name : List ℕ). (is_among c.args.web.now.files name
    || is_among (take c.loop-number.number c.args.outputs.now) name) ≡ false) c.word-name.ensures
    (sym c.is_taken.ensures ∙ c.if-is_taken.false)) c.loop-number.invariant
