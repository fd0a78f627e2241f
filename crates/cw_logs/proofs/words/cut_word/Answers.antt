-- A word ends at the first blank.
use Rattle.cw_logs.proofs.Terms.{take, sym, subst, arith, IsCut, take_rest}
use Rattle.cw_logs.proofs.WordLaws.{cut-at, cut-nowhere}
use Rattle.cw_logs.proofs.words.cut_word.Goals as goal

pub returns-in-Some : goal.returns-in-Some
returns-in-Some c = subst (IsCut c.args.text.now (take c.in-Some.end c.args.text.now)) (sym (take_rest c.args.text.now
    c.in-Some.end)) (cut-at c.args.text.now c.in-Some.end c.in-Some.ensures.0.high (grind arith) c.in-Some.ensures.1)

pub returns-in-None : goal.returns-in-None
returns-in-None c = cut-nowhere c.args.text.now (λ k below. c.in-None.ensures k (omega arith) below)
