-- No section so far is starred: those behind them decide.
use Rattle.cw_index.proofs.Terms.{◌≡◌, drop, list_any}
use Rattle.cw_index.proofs.closing.has_starred.Given as goal

abbrev pub invariant-loop-before : goal.invariant-loop-before
invariant-loop-before l = list_any (λ section. section.starred) (drop l.before l.book.outline.sections) ≡ list_any
    (λ section. section.starred) l.book.outline.sections
