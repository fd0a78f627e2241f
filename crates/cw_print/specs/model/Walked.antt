-- What is seen of a walk over the items of a C text.
use Rattle.cw_print.specs.Walk.{Fixed, ItemPrint, Stand}

pub record Walked : Type 0 where
  pub fixed : Fixed
  pub stand : Stand

-- the walk behind an item that was shown
abbrev pub behind : Walked → ItemPrint → Walked
behind walked shown = record { fixed = walked.fixed; stand = shown.stand }
