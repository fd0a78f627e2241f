-- What is held is the trimmed list, once the breaks are taken out of the gap at its end.
use Rattle.cw_tokens.proofs.Terms.{ap, sym, ◌∙◌, subst, items_are, StandsFor, Trims}
use Rattle.cw_tokens.proofs.Standing.{stands-end}
use Rattle.cw_tokens.proofs.trimmer.Trimmer.done.Goals as goal

pub returns : goal.returns
returns c = λ given stands. ap items_are c.of.ensures ∙ stands-end _ given _
    (subst (λ (t : Trims). StandsFor t given) (sym c.self.view_is) stands) c.take_breaks.ensures.items
