-- One byte on, inside a body.
use Rattle.std.proofs.Common.{◌≡◌, ℕ, ◌<◌, ◌≤◌, true, arith, List, [], ◌∷◌, Option, slice_index, drop, ap, sym, ◌∙◌}
use Rattle.std.proofs.{lemmas.List.drop-drop, lemmas.Bool.Decides.nat_tests}
use Rattle.cw_base.specs.declared.notes.NoteKind.{NoteKind}
use Rattle.cw_rules.specs.declared.bodies.Inside.{Inside}
use Rattle.cw_rules.specs.Bodies.{goes_on, stepped, ended, noted, note_here, with_note}

noted-step : (i : Inside) (bytes : List ℕ) → goes_on i bytes ≡ true
    → noted i bytes ≡ with_note (note_here i (slice_index bytes 0) (drop 1 bytes)) i.place
    (noted (stepped i (slice_index bytes 0) (drop 1 bytes)) (drop 1 bytes))
noted-step i x2 h = grind (arith, nat_tests)

-- the same in a text
pub noted-at : (text : List ℕ) (i next : Inside) (here : Option NoteKind) → goes_on i (drop i.place text) ≡ true
    → note_here i (slice_index (drop i.place text) 0) (drop 1 (drop i.place text)) ≡ here
    → next ≡ stepped i (slice_index (drop i.place text) 0) (drop 1 (drop i.place text))
    → noted i (drop i.place text) ≡ with_note here i.place (noted next (drop next.place text))
noted-at text i next here h e n = noted-step i (drop i.place text) h
    ∙ (λ j. with_note (e j) i.place (noted (sym n j) (drop-drop 1 i.place text j)))
    ∙ ap (λ p. with_note here i.place (noted next (drop p text))) (sym (ap (λ (s : Inside). s.place) n))

-- a body ends no earlier than it begins, and later where it goes on
pub ended-le : (i : Inside) (bytes : List ℕ) → i.place ≤ (ended i bytes).place
ended-le i [] = omega arith
ended-le i (b ∷ bs) = grind (arith, ended-le (stepped i b bs) bs)

pub ended-some : (i : Inside) (bytes : List ℕ) → goes_on i bytes ≡ true → i.place < (ended i bytes).place
ended-some i x2 h = grind (arith, nat_tests, nat_tests, ended-le)
