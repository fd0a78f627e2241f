-- The note that is met is the first of those that were left; a byte without one leaves them all.
use Rattle.std.proofs.Common.{◌≡◌, ◌∷◌, true, None, Some, slice_index, drop, ap, sym, ◌∙◌}
use Rattle.cw_rules.specs.{declared.bodies.NoteAt.NoteAt, Bodies.goes_on, Bodies.note_here, Bodies.stepped}
use Rattle.cw_rules.proofs.Inside.{noted-at}
use Rattle.cw_rules.proofs.bodies.next_noted.Goals as goal

pub returns-in-Some-clause-value : goal.returns-in-Some-clause-value
returns-in-Some-clause-value c =
    let bytes = drop c.loop-place.i.place c.args.text.now in
    let n : NoteAt = record { kind = c.in-Some.kind; place = c.loop-place.i.place } in
    let goes : goes_on c.loop-place.i bytes ≡ true = cc in
    let here : note_here c.loop-place.i (slice_index bytes 0) (drop 1 bytes) ≡ Some c.in-Some.kind = cc in
    let next : c.step-next.result ≡ stepped c.loop-place.i (slice_index bytes 0) (drop 1 bytes) = cc in
    sym c.loop-place.invariant.value ∙ noted-at c.args.text.now c.loop-place.i c.step-next.result
    (Some c.in-Some.kind) goes here next ∙ ap (λ notes. n ∷ notes) (sym c.behind_idle-i-in-loop-place.ensures.notes)

pub loop-place-preserved : goal.loop-place-preserved
loop-place-preserved c =
    let bytes = drop c.loop-place.i.place c.args.text.now in
    let goes : goes_on c.loop-place.i bytes ≡ true = cc in
    let here : note_here c.loop-place.i (slice_index bytes 0) (drop 1 bytes) ≡ None = cc in
    let next : c.step-next.result ≡ stepped c.loop-place.i (slice_index bytes 0) (drop 1 bytes) = cc in
    let behind = c.behind_idle-i-in-loop-place.ensures in
    record {
      within = behind.within;
      braces = behind.braces;
      value = behind.notes ∙ sym (noted-at c.args.text.now c.loop-place.i c.step-next.result None goes here next)
          ∙ c.loop-place.invariant.value;
    }
