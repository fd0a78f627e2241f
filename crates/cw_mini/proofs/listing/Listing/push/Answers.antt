-- The name goes behind those of its section, and the names of other sections stay.
use Rattle.cw_mini.proofs.Terms.{◌∙◌, ℕ, List, [], ◌∷◌, ◌++◌, Vec, Global, ap, sym, map-append, NameId, positions}
use Rattle.cw_mini.proofs.NamesAt.{at-other, at-read, at-set}
use Rattle.cw_mini.proofs.listing.Listing.push.Goals as goal

pub returns-in_err-push-clause-elsewhere : goal.returns-in_err-push-clause-elsewhere
returns-in_err-push-clause-elsewhere c = λ other differ.
    at-other c.args.self.now.by_section.items c.push.new.self c.args.section other differ

pub returns-in_ok-push-clause-elsewhere : goal.returns-in_ok-push-clause-elsewhere
returns-in_ok-push-clause-elsewhere c = λ other differ.
    at-other c.args.self.now.by_section.items c.push.new.self c.args.section other differ

pub returns-in_ok-push-clause-here : goal.returns-in_ok-push-clause-here
returns-in_ok-push-clause-here c = λ low. at-set c.args.self.now.by_section.items c.push.new.self c.args.section low
    ∙ ap positions c.in_ok-push.ensures.items ∙ map-append (λ (id : NameId). id.index) c.in-Some.list.now.items
    (c.args.id ∷ []) ∙ ap (λ (names : List ℕ). names ++ c.args.id.index ∷ [])
    (ap (λ (list : Vec NameId Global). positions list.items) c.in-Some.ensures.value
    ∙ sym (at-read c.args.self.now.by_section.items c.in-Some.list.now c.args.section low))
