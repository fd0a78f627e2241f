-- No piece so far is prose, so those that are left decide; and each piece leaves one less to come.
use Rattle.cw_press.proofs.Terms.{◌≡◌, length, list_any, has_prose, is_prose}
use Rattle.cw_press.proofs.beside.has_prose.Given as goal

abbrev pub invariant-all : goal.invariant-all
invariant-all l = list_any (is_prose l.text) l.pieces ≡ has_prose l.text l.fn.tex

abbrev pub decreases-all : goal.decreases-all
decreases-all l = length l.pieces
