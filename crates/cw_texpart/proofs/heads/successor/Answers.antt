-- The digit at hand takes up what is carried.
use Rattle.cw_texpart.proofs.Terms.{◌≡◌, ◌+◌, ◌-◌, get_or, set, arith, common_steps, successor}
use Rattle.cw_texpart.proofs.DepthLaws.{digit-takes}
use Rattle.cw_texpart.proofs.heads.successor.Goals as goal

pub returns-then-index-lt57 : goal.returns-then-index-lt57
returns-then-index-lt57 c =
    let takes : set c.loop-at.digits.items (c.loop-at.at - 1)
    (get_or c.loop-at.digits.items (c.loop-at.at - 1) 0 + 1) ≡ successor c.args.number.now =
    grind (arith, common_steps, digit-takes c.args.number.now c.loop-at.digits.items (c.loop-at.at - 1)) in
    grind (arith, common_steps, takes)
