-- A name that is wanted stands at its place, since no two keys are equal.
use Rattle.cw_names.proofs.Terms.{◌≡◌, ◌∙◌, ◌&&◌, Bool, List, true, nat_eq, ℕ, ap, sym, place_of}
use Rattle.std.specs.Cmp.Lexicographic.{pointwise, bytes_decides}
use Rattle.cw_names.proofs.Lookup.{wanted-place}
use Rattle.cw_names.proofs.names.Names.recent_at.Goals as goal

both : (kind : Bool) (a b : List ℕ) → kind ≡ true → a ≡ b → (kind && pointwise nat_eq a b) ≡ true
both kind a b is same = ap (λ k. k && pointwise nat_eq a b) is ∙ (bytes_decides a b).1 same

pub returns-then-are_same-clause-place : goal.returns-then-are_same-clause-place
returns-then-are_same-clause-place c = wanted-place
    (record { kind = c.args.kind; text = c.args.text }) c.self.inside.categories.entries c.in_ok-index.field-0.now
    (c.in_ok-key.key.now, c.in_ok-key.field-0-1.now) c.len.ensures.unique (sym c.in_ok-key.ensures.entry)
    (both _ _ _ (sym c.is.ensures ∙ c.if-is.true) (c.are_same.ensures c.if-are_same.true ∙ c.as_slice.ensures.value))
    ∙ ap (place_of c.args.kind c.args.text.now) c.self.view_is
