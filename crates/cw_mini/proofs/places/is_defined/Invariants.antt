-- No place so far is underlined: those behind them decide.
use Rattle.cw_mini.proofs.Terms.{◌≡◌, drop, has_sections, defining}
use Rattle.cw_mini.proofs.places.is_defined.Given as goal

abbrev pub invariant-loop-place : goal.invariant-loop-place
invariant-loop-place l = has_sections (defining (drop l.place-index l.sections)) ≡ has_sections (defining l.sections)
