-- The name of the next pair is sorted too.
use Rattle.cw_index.proofs.Terms.{List, ap, ◌∙◌, map, Standing, stand_of}
use Rattle.cw_index.proofs.StandLaws.{stands-step, with_stands}
use Rattle.cw_index.proofs.standing.sorted_stands.Goals as goal

pub loop-i-init : goal.loop-i-init
loop-i-init c = (
  ap (λ (keys : List Standing). with_stands c.args.names.now c.args.uses.now (map stand_of keys))
      c.in_ok-sorting.ensures.stands,
  λ k n at here. absurd (cc (c.in_ok-sorting.ensures.entered k, at)),
)

pub loop-i-preserved : goal.loop-i-preserved
loop-i-preserved c = (
  stands-step c.args.names.now c.args.uses.now c.loop-i.i (record
      { place = c.pair-place.result.0; name = c.pair-place.result.1.index }) (map stand_of c.loop-i.sorting.stands.keys)
      (map stand_of c.enter.new.self.stands.keys) c.pair-place.ensures c.in_ok-enter.ensures.stands
      ∙ c.loop-i.invariant.0,
  c.in_ok-enter.ensures.entered,
)
