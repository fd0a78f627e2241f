-- The message and the word are one text.
use Rattle.cw_run.proofs.Terms.{ℕ, List, ◌++◌, ap, ◌∙◌, runs-known}
use Rattle.cw_run.specs.Stops.{stopped}
use Rattle.cw_run.proofs.stops.stop_at.Goals as goal

pub returns : goal.returns
returns g c = runs-known (ap stopped (c.in_ok-append.ensures.ok
    ∙ ap (λ (text : List ℕ). text ++ c.args.word.now) c.in_ok-text.ensures)) c.stop_with.ensures
