-- No section so far is listed: those behind them decide.
use Rattle.cw_index.proofs.Terms.{◌≡◌, drop, has_sections, listed}
use Rattle.cw_index.proofs.heading.Heading.has_sections.Given as goal

abbrev pub invariant-loop-section : goal.invariant-loop-section
invariant-loop-section l = has_sections (listed l.self.underlined_only (drop l.section-index l.self.sections.now))
    ≡ has_sections (listed l.self.underlined_only l.self.sections.now)
