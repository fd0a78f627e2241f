-- A section uses a name where it has a place that isn't underlined.
use Rattle.cw_mini.proofs.Terms.{◌∙◌, ◌&&◌, Bool, List, ap, sym, SectionRef, defining, is_used_in, places_of}
use Rattle.cw_mini.proofs.ListingLaws.{used-is}
use Rattle.cw_mini.proofs.places.Places.lists.Goals as goal

pub returns : goal.returns
returns c = λ entry there.
    let used : List SectionRef → Bool = λ ms. is_used_in c.args.section ms (defining ms) in
    c.is_used.ensures ∙ sym (used-is c.args.section c.sections_of.result.now c.sections_of.ensures.ascending)
    ∙ ap used c.sections_of.ensures.value ∙ ap (λ (b : Bool). b && used (places_of c.args.self.now c.args.id))
    (sym c.if-not-may_be_listed.false ∙ c.may_be_listed.ensures entry there)
