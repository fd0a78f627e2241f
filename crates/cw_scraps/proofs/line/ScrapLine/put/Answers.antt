-- The scrap at the place is written over, whether it lies before the gap or behind it.
use Rattle.cw_scraps.proofs.Gaps.{put-left-at, put-right-at}
use Rattle.cw_scraps.proofs.line.ScrapLine.put.Goals.{then-i-self, else-i-self}
use Rattle.cw_scraps.proofs.line.ScrapLine.put.Goals as goal

pub returns : goal.returns
returns c = elim c.if-i-self.branch [
  | then-i-self w ↦ put-left-at _ _ _ _ _ _ _ c.self.invariant c.self.view_is w.if-i-self.true w.at-is
  | else-i-self w ↦ put-right-at _ _ _ _ _ _ _ c.self.invariant c.self.view_is w.if-i-self.false w.at-is
]
