-- Digits that are none, or that write a number that is too great, are those of no number that is asked for.
use Rattle.cw_logs.proofs.Terms.{ℕ, ◌+◌, ◌*◌, arith, subst, sym, ◌∙◌, common_steps}
use Rattle.cw_logs.proofs.DigitLaws.{IsRead, all-read, has-digits, is-some, lone-zero, needless, no-digit, none-read}
use Rattle.cw_logs.proofs.DigitLaws.{one-read, some-digits, too-great}
use Rattle.cw_logs.proofs.numbers.number_in.Goals as goal

pub returns-then-is_empty : goal.returns-then-is_empty
returns-then-is_empty c = grind (arith, is-some, common_steps)

pub returns-then-has_needless_zero : goal.returns-then-has_needless_zero
returns-then-has_needless_zero c = grind (arith, needless)

pub returns-then-not-is_digit : goal.returns-then-not-is_digit
returns-then-not-is_digit c = grind (arith, no-digit, has-digits)

pub loop-digit-init : goal.loop-digit-init
loop-digit-init c = none-read c.args.most c.args.digits.now

pub returns-then-number-from : goal.returns-then-number-from
returns-then-number-from c = λ number most is. too-great _ c.args.digits.now c.loop-digit.digit-index
    c.loop-digit.number c.loop-digit.invariant c.loop-digit-test.true (omega (arith, c.ranges.most.fits))
    (omega (arith, c.if-number-from.true, c.from.ensures, c.from-in-loop-digit.ensures)) number most is

pub loop-digit-preserved : goal.loop-digit-preserved
loop-digit-preserved c = subst (λ (d : ℕ). IsRead c.args.most c.args.digits.now (c.loop-digit.digit-index + 1)
    (c.loop-digit.number * 10 + d)) (sym c.from.ensures) (one-read _ c.args.digits.now c.loop-digit.digit-index
    c.loop-digit.number c.loop-digit.invariant c.loop-digit-test.true (sym c.is_digit.ensures ∙ c.if-not-is_digit.false)
    (omega (arith, c.if-number-from.false, c.from.ensures, c.from-in-loop-digit.ensures)))

pub returns : goal.returns
returns c = record { within = c.loop-digit.invariant.few; is = grind (arith, all-read, some-digits, lone-zero) }
