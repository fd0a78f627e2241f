-- The names are listed in their order.
use Rattle.cw_index.proofs.Terms.{ap, List, ◌++◌, map, ◌∙◌, Listed, Standing, stand_of}
use Rattle.cw_index.proofs.standing.listed_names.Goals as goal

pub loop-stand-init : goal.loop-stand-init
loop-stand-init c = ap (λ (listed : List Listed). listed ++ map (λ s. s.listed)
    (map stand_of c.into_iter-stand-iterator.result)) c.new-listed.ensures.items ∙ ap (λ (stands : List Standing). map
    (λ s. s.listed) (map stand_of stands)) c.into_iter-stand-iterator.ensures.into_iter_gives.0
    ∙ ap (map (λ s. s.listed)) c.in_ok-stands.ensures
