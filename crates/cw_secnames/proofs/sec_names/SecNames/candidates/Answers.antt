-- The earliest candidates, from the first one and the next one behind it.
use Rattle.std.proofs.Common.{◌∙◌, sym}
use Rattle.cw_secnames.specs.Kept.{is_candidate}
use Rattle.cw_secnames.proofs.Finding.{from-nobody, from-one, from-several}
use Rattle.cw_secnames.proofs.sec_names.SecNames.candidates.Goals as goal

pub returns-in-None-clause-value : goal.returns-in-None-clause-value
returns-in-None-clause-value c =
    from-nobody (is_candidate c.args.prefix.now) c.args.self.now (sym c.earliest_from.ensures.value ∙ c.in-None.is)

pub returns-in-None-earliest_from-clause-value : goal.returns-in-None-earliest_from-clause-value
returns-in-None-earliest_from-clause-value c = from-one (is_candidate c.args.prefix.now) c.args.self.now c.in-Some.first
    (sym c.earliest_from.ensures.value ∙ c.in-Some.is) (sym c.earliest_from-in-Some.ensures.value
    ∙ c.in-None-earliest_from.is)

pub returns-in-Some-earliest_from-clause-value : goal.returns-in-Some-earliest_from-clause-value
returns-in-Some-earliest_from-clause-value c = from-several (is_candidate c.args.prefix.now) c.args.self.now
    c.in-Some.first c.in-Some-earliest_from.next (sym c.earliest_from.ensures.value ∙ c.in-Some.is)
    (sym c.earliest_from-in-Some.ensures.value ∙ c.in-Some-earliest_from.is)
