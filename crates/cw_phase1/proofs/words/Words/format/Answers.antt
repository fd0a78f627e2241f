-- A category that changes leaves as many names.
use Rattle.cw_phase1.proofs.Terms.{◌<◌, length, sym, ap, subst, ◌∙◌, IfSome}
use Rattle.cw_phase1.proofs.NameLaws.{category-length}
use Rattle.cw_phase1.proofs.words.Words.format.Goals as goal

pub returns-in-Some-clause-first : goal.returns-in-Some-clause-first
returns-in-Some-clause-first c = subst (λ n. IfSome c.args.self.now.first (λ id. id.index < n)) (sym (ap length
    c.set_category.ensures ∙ category-length _ c.category-category.result c.args.self.now.names)) c.requires.first
