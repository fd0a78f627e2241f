-- A name that is entered changes nothing, and another goes to its place.
use Rattle.cw_index.proofs.Terms.{ap, map, sym, ◌∙◌, slice_get, sorted_on, stand_cmp, stand_of, stands_of}
use Rattle.cw_index.proofs.{EnteredLaws.entered-same, EnteredLaws.sorting-more, StandLaws.entered}
use Rattle.cw_index.proofs.standing.Sorting.enter.Goals as goal

pub returns-then-has_entered-clause-stands : goal.returns-then-has_entered-clause-stands
returns-then-has_entered-clause-stands c = entered-same
    (slice_get c.args.names.now c.args.listed.id.index) c.args.listed (map stand_of c.args.self.now.stands.keys)
    (λ n here. c.requires c.args.listed.id.index n (sym c.has_entered.ensures ∙ c.if-has_entered.true) here)

pub returns-in_ok-insert-in-Some-clause-stands : goal.returns-in_ok-insert-in-Some-clause-stands
returns-in_ok-insert-in-Some-clause-stands c = entered c.in-Some.stand c.args.self.now.stands.keys
    c.insert.new.self.stands.keys c.in_ok-insert-in-Some.ensures.stands ∙ ap (sorted_on stand_cmp
    (map stand_of c.args.self.now.stands.keys)) (ap stands_of (sym c.in-Some.is) ∙ c.kept_stand.ensures)

pub returns-in_ok-insert-in-Some-clause-entered : goal.returns-in_ok-insert-in-Some-clause-entered
returns-in_ok-insert-in-Some-clause-entered c = sorting-more c.args.names.now c.args.self.now c.insert.new.self
    c.in-Some.stand c.args.listed c.requires c.in_ok-insert-in-Some.ensures.stands
    c.in_ok-insert-in-Some.ensures.entered (ap stands_of (sym c.in-Some.is) ∙ c.kept_stand.ensures)
