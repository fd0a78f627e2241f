-- The row found in the line that is opened is the first that fits in the line itself.
use Rattle.std.proofs.Common.{◌≡◌, None, List, drop, subst, arith}
use Rattle.std.specs.Prelude.{MatchOption}
use Rattle.cw_table.specs.Fitting.{first_of}
use Rattle.cw_table.specs.Productions.{productions}
use Rattle.cw_scraps.specs.declared.line.LineEntry.{LineEntry}
use Rattle.cw_scraps.specs.model.Inserting.{entry_cats}
use Rattle.cw_rewrite.specs.model.Reduction.{IsFirst}
use Rattle.cw_rewrite.proofs.walk.row_at.Goals as goal

pub returns-clause-first : goal.returns-clause-first
returns-clause-first g c = subst (λ (line : List LineEntry). MatchOption c.row_behind.result
    (first_of productions (drop c.args.place (entry_cats line)) ≡ None)
    (λ row. IsFirst (drop c.args.place (entry_cats line)) row.number)) c.open.ensures c.row_behind.ensures.first

pub returns-clause-same : goal.returns-clause-same
returns-clause-same g c = c.open.ensures

pub returns-clause-steps : goal.returns-clause-steps
returns-clause-steps g c = omega (
  arith,
  c.cat_behind-first.ensures.steps,
  c.cat_behind-second.ensures.steps,
  c.row_behind.ensures.steps,
)
