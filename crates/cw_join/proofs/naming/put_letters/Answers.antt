-- One letter is put, and the letters of the rest come behind it.
use Rattle.cw_join.proofs.Terms.{[], ◌+◌, drop, map, refl, prints-failing, prints-longer, prints-none, prints-then}
use Rattle.cw_join.proofs.Terms.{macro_letter}
use Rattle.cw_join.proofs.MacroLaws.{letters-more}
use Rattle.cw_join.proofs.naming.put_letters.Goals as goal

pub letters-init : goal.letters-init
letters-init g c = record { done = []; put = prints-none _ _ (tt {0}); is = refl }

pub returns-in_err-put_all : goal.returns-in_err-put_all
returns-in_err-put_all g c = prints-failing (letters-more c.args.name.now c.letters.invariant.done c.letters.byte-index
    c.macro_letter.result c.letters-test.true c.macro_letter.ensures c.letters.invariant.is)
    (prints-longer (map macro_letter (drop (c.letters.byte-index + 1) c.args.name.now))
    (prints-then c.letters.invariant.put c.in_err-put_all.ensures)) c.from_residual.ensures.1

pub letters-preserved : goal.letters-preserved
letters-preserved g c = record {
  done = _;
  put = prints-then c.letters.invariant.put c.in_ok-put_all.ensures;
  is = letters-more c.args.name.now c.letters.invariant.done c.letters.byte-index c.macro_letter.result
      c.letters-test.true c.macro_letter.ensures c.letters.invariant.is;
}
