-- No place so far is a use in the section: those behind them decide.
use Rattle.cw_mini.proofs.Terms.{◌≡◌, ◌==◌, ◌&&◌, drop, not, list_any}
use Rattle.cw_mini.proofs.places.is_used.Given as goal

abbrev pub invariant-loop-place : goal.invariant-loop-place
invariant-loop-place l = list_any (λ m. m.section == l.section && not m.underlined)
    (drop l.place-index l.sections) ≡ list_any (λ m. m.section == l.section && not m.underlined) l.sections
