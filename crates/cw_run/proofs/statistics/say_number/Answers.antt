-- The label and the number are one text.
use Rattle.cw_run.proofs.Terms.{ℕ, List, ◌++◌, ap, ◌∙◌, decimal, adds-events, says}
use Rattle.cw_run.proofs.statistics.say_number.Goals as goal

pub returns : goal.returns
returns g c = adds-events (ap says (c.in_ok-append_number.ensures.ok
    ∙ ap (λ (text : List ℕ). text ++ decimal c.args.number) c.in_ok-text.ensures)) c.say_text.ensures
