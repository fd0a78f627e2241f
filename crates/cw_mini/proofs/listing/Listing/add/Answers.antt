-- A use lists the name in its section, and a name that sections don't list stays out.
use Rattle.cw_mini.proofs.Terms.{◌≡◌, ◌∙◌, ℕ, ◌&&◌, false, List, [], ◌∷◌, ◌++◌, ap, arith, drop, get_or, length, subst}
use Rattle.cw_mini.proofs.Terms.{sym, list_if, SectionRef, defining, is_used_in, may_be_listed, names_at}
use Rattle.cw_mini.specs.declared.listing.Listing.{Listing}
use Rattle.cw_mini.proofs.ListingLaws.{is-unused, is-used, listed-whole, step-listed, step-passed, with_later}
use Rattle.cw_mini.proofs.listing.Listing.add.Goals.{else-is_use, then-is_use+in_ok-push}
use Rattle.cw_mini.proofs.listing.Listing.add.Goals as goal

pub loop-place-preserved : goal.loop-place-preserved
loop-place-preserved c =
    let ms : List SectionRef = c.sections_of-place-items.result.now in
    let i : ℕ = c.loop-place.place-index in
    let none : SectionRef = record { section = 0; underlined = false } in
    let place : ℕ = (get_or ms i none).section in
    let name : ℕ = c.args.id.index in
    let old : Listing = c.loop-place.self in
    elim c.if-is_use.branch [
      | then-is_use+in_ok-push w ↦ record {
        listed = λ section low.
            let new : names_at section c.if-is_use.self.by_section.items ≡ names_at section
            w.push.new.self.by_section.items = ap (λ (l : Listing). names_at section l.by_section.items) w.self-is in
            step-listed section name i (names_at section old.by_section.items)
            (names_at section c.if-is_use.self.by_section.items) _ ms none c.sections_of-place-items.ensures.ascending
            c.loop-place-test.true
            (is-used c.is_use.result (get_or ms i none).underlined c.is_use.ensures w.if-is_use.true) (λ e. new ∙ subst
            (λ (n : ℕ). names_at n w.push.new.self.by_section.items ≡ names_at n old.by_section.items ++ name ∷ [])
            (sym e) (w.in_ok-push.ensures.here (omega (arith, low, e, c.loop-place.invariant.len)))) (λ apart. new
            ∙ w.push.ensures.elsewhere section apart) (c.loop-place.invariant.listed section low);
        len = ap (λ (l : Listing). length l.by_section.items) w.self-is ∙ w.push.ensures.len
            ∙ c.loop-place.invariant.len;
      }
      | else-is_use w ↦ record {
        listed = λ section low. step-passed section name i (names_at section c.if-is_use.self.by_section.items) _ ms
            none c.loop-place-test.true (is-unused c.is_use.result (get_or ms i none).underlined c.is_use.ensures
            w.if-is_use.false) (ap (λ (l : Listing). with_later section name (names_at section l.by_section.items)
            (drop i ms)) w.self-is ∙ c.loop-place.invariant.listed section low);
        len = ap (λ (l : Listing). length l.by_section.items) w.self-is ∙ c.loop-place.invariant.len;
      }
    ]

pub returns : goal.returns
returns c = record {
  len = c.loop-place.invariant.len;
  listed = λ entry there section low. listed-whole section c.args.id.index c.loop-place.place-index
      (names_at section c.loop-place.self.by_section.items) (names_at section c.args.self.now.by_section.items)
      c.sections_of-place-items.result.now (may_be_listed c.args.places c.args.id entry)
      c.sections_of-place-items.ensures.ascending c.loop-place-test.false (sym (c.may_be_listed.ensures entry there)
      ∙ c.if-not-may_be_listed.false) (c.loop-place.invariant.listed section low) ∙ ap (λ (places : List SectionRef).
      names_at section c.args.self.now.by_section.items ++ list_if (may_be_listed c.args.places c.args.id entry &&
      is_used_in section places (defining places)) (c.args.id.index ∷ [])) c.sections_of-place-items.ensures.value;
}
