-- Shown tokens stand in the tree once and in order, the tree ends in text, and the steps keep to the limit.
use Rattle.cw_reduce.proofs.HeadsShown.{stands-in-text, ticks-within, translated-shown}
use Rattle.cw_reduce.proofs.laws.translation_laws.Goals as goal

pub returns : goal.returns
returns c = record { shown = translated-shown; modes = stands-in-text; limit = ticks-within }
