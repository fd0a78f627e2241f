-- Two sets have a production in common where some production admits both categories; where none does, no window fits.
use Rattle.cw_table.proofs.Terms.{◌∙◌, sym}
use Rattle.cw_table.proofs.MaskLaws.{two-met, two-none}
use Rattle.cw_table.proofs.masks.may_fit.Goals as goal

pub returns-clause-some : goal.returns-clause-some
returns-clause-some c = two-met c.args.first c.args.second _ _ _ _ c.mask-one.ensures.early c.mask-other.ensures.early
    c.mask-one.ensures.late c.mask-other.ensures.late

pub returns-clause-none : goal.returns-clause-none
returns-clause-none c = λ none third fourth. two-none c.args.first c.args.second
    (sym (two-met c.args.first c.args.second _ _ _ _ c.mask-one.ensures.early c.mask-other.ensures.early
    c.mask-one.ensures.late
    c.mask-other.ensures.late) ∙ none) third fourth
