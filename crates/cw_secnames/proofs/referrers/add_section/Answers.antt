-- A binary search finds the section, or the place at which it ascends.
use Rattle.std.proofs.Common.{◌≡◌, ◌∙◌, subst, MatchResult, insert, List}
use Rattle.std.specs.{List.Sorted.IsBinarySearchResult, Ordering.nat_cmp}
use Rattle.std.proofs.lemmas.Result.{on_ok_weaker}
use Rattle.cw_secnames.{specs.References.with_number, proofs.References.searched_number}
use Rattle.cw_secnames.proofs.referrers.add_section.Goals as goal

pub returns-in-Ok-clause-ok : goal.returns-in-Ok-clause-ok
returns-in-Ok-clause-ok c =
    let ns = c.args.sections.now.items in
    let n = c.args.section in
    subst (λ r. MatchResult r (λ i. ns ≡ with_number n ns) (λ i. insert ns i n ≡ with_number n ns)) c.in-Ok.is
    (searched_number n ns c.binary_search.result c.requires (subst (λ (xs : List _). IsBinarySearchResult
    (λ other. nat_cmp other n) xs c.binary_search.result) c.deref.ensures.value c.binary_search.ensures.position))

pub returns-in-Err-clause-ok : goal.returns-in-Err-clause-ok
returns-in-Err-clause-ok c =
    let ns = c.args.sections.now.items in
    let n = c.args.section in
    on_ok_weaker c.put.result (λ is. is ∙ subst (λ r. MatchResult r (λ i. ns ≡ with_number n ns)
    (λ i. insert ns i n ≡ with_number n ns)) c.in-Err.is (searched_number n ns c.binary_search.result c.requires
    (subst (λ (xs : List _). IsBinarySearchResult (λ other. nat_cmp other n) xs c.binary_search.result)
    c.deref.ensures.value c.binary_search.ensures.position))) c.put.ensures.ok
