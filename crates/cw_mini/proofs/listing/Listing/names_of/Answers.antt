-- The list that is lent has the names of the section; where there is no list it has none.
use Rattle.cw_mini.proofs.Terms.{◌<◌, ◌≤◌, length, get_or, ap, sym, subst, ◌∙◌, positions}
use Rattle.cw_mini.proofs.NamesAt.{at-end, at-read}
use Rattle.cw_mini.proofs.listing.Listing.names_of.Goals as goal

pub returns-in-Some : goal.returns-in-Some
returns-in-Some c =
    let low : c.args.section < length c.args.self.now.by_section.items = subst
    (λ xs. c.args.section < length xs) c.deref.ensures.value c.in-Some.ensures.lookup.3.0 in
    ap positions (c.as_slice.ensures.value ∙ ap (λ v. v.items) (c.in-Some.ensures.lookup.1
    ∙ ap (λ xs. get_or xs c.args.section c.in-Some.list.now) c.deref.ensures.value))
    ∙ sym (at-read c.args.self.now.by_section.items c.in-Some.list.now c.args.section low)

pub returns-in-None : goal.returns-in-None
returns-in-None c =
    let past : length c.args.self.now.by_section.items ≤ c.args.section = subst
    (λ xs. length xs ≤ c.args.section) c.deref.ensures.value c.in-None.ensures.lookup.3 in
    sym (at-end c.args.self.now.by_section.items c.args.section past)
