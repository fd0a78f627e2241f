-- The lines of the next section go behind those before them.
use Rattle.cw_mini.proofs.Terms.{◌∙◌, ℕ, ◌+◌, ◌-◌, ◌<◌, List, ap, length, subst, flat_map, range_with_len, Tex}
use Rattle.cw_mini.proofs.Terms.{byte_events, adds-events, section_lines}
use Rattle.cw_mini.proofs.Writing.{left-next, writing-as, writing-next, writing-stopped, writing-wanting}
use Rattle.cw_mini.proofs.sections.write_sections.Goals as goal

pub returns-in_err-lines : goal.returns-in_err-lines
returns-in_err-lines g c = writing-wanting c.loop-before.invariant c.from_residual-in_err-lines.ensures.1

pub returns-in_err-write_all : goal.returns-in_err-write_all
returns-in_err-write_all g c =
    let f : ℕ → List ℕ = section_lines c.args.book.now in
    let before : ℕ = c.loop-before.before in
    let count : ℕ = length c.args.book.now.outline.sections in
    let low : before < count =
    subst (λ (n : ℕ). before < n) c.section_count-before-end.ensures c.loop-before-test.true in
    writing-stopped (f (before + 1)) (flat_map f (range_with_len (before + 1 + 1) (count - (before + 1))))
    (writing-as (left-next f before count low) c.loop-before.invariant) (adds-events (ap (byte_events Tex)
    (c.as_slice.ensures ∙ c.in_ok-lines.ensures)) c.in_err-write_all.ensures) c.from_residual-in_err-write_all.ensures.1

pub loop-before-preserved : goal.loop-before-preserved
loop-before-preserved g c =
    let f : ℕ → List ℕ = section_lines c.args.book.now in
    let before : ℕ = c.loop-before.before in
    let count : ℕ = length c.args.book.now.outline.sections in
    let low : before < count =
    subst (λ (n : ℕ). before < n) c.section_count-before-end.ensures c.loop-before-test.true in
    writing-next (f (before + 1)) (writing-as (left-next f before count low) c.loop-before.invariant)
    (adds-events (ap (byte_events Tex) (c.as_slice.ensures ∙ c.in_ok-lines.ensures)) c.in_ok-write_all.ensures)
