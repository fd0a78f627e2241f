-- The program's data has the scrap that the row sets in bold.
use Rattle.cw_table.proofs.Terms.{ap, ◌∙◌, Row}
use Rattle.cw_table.proofs.HandLaws.{row-at}
use Rattle.cw_table.proofs.at_hand.RowAtHand.bold.Goals as goal

pub returns : goal.returns
returns c = ap (λ (row : Row). row.action.bold) (row-at c.self.inside.index c.self.invariant ∙ c.self.view_is)
