-- The lowest bit that four masks of the second word share is the first production that fits behind those of the first
-- word; where they share none, none fits there.
use Rattle.cw_table.proofs.MaskLaws.{late-bound, late-first, late-none}
use Rattle.cw_table.proofs.masks.first_late.Goals as goal

pub returns-then-fitting-eq0-clause-first : goal.returns-then-fitting-eq0-clause-first
returns-then-fitting-eq0-clause-first c = late-none c.args.first c.args.second c.args.third c.args.fourth _ _ _ _
    c.mask.ensures.late c.mask-2.ensures.late c.mask-3.ensures.late c.mask-4.ensures.late c.if-fitting-eq0.true

pub returns-else-fitting-eq0-clause-first : goal.returns-else-fitting-eq0-clause-first
returns-else-fitting-eq0-clause-first c = late-first c.args.first c.args.second c.args.third c.args.fourth _ _ _ _
    c.mask.ensures.late c.mask-2.ensures.late c.mask-3.ensures.late c.mask-4.ensures.late c.if-fitting-eq0.false

pub returns-else-fitting-eq0-clause-to_last : goal.returns-else-fitting-eq0-clause-to_last
returns-else-fitting-eq0-clause-to_last c = late-bound c.args.first c.args.second c.args.third c.args.fourth _ _ _ _
    c.mask.ensures.late c.mask-2.ensures.late c.mask-3.ensures.late c.mask-4.ensures.late c.if-fitting-eq0.false
