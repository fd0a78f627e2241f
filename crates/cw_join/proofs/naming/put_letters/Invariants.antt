-- The letters that are put, with those that are left, are the letters of the macro.
use Rattle.cw_join.proofs.Terms.{drop}
use Rattle.cw_join.proofs.MacroLaws.{LettersPut}
use Rattle.cw_join.proofs.naming.put_letters.Given as goal

abbrev pub invariant-letters : goal.invariant-letters
invariant-letters g l = LettersPut g.D.Desk.told l.name (drop l.byte-index l.name) l.fn.sheet l.sheet
