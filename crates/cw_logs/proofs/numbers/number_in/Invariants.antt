-- The digits before this one are read.
use Rattle.cw_logs.proofs.DigitLaws.{IsRead}
use Rattle.cw_logs.proofs.numbers.number_in.Given as goal

abbrev pub invariant-loop-digit : goal.invariant-loop-digit
invariant-loop-digit l = IsRead l.most l.digits l.digit-index l.number
