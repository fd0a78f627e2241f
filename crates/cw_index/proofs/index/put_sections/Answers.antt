-- Each section goes behind those before it.
use Rattle.cw_index.proofs.Terms.{ℕ, ◌+◌, drop, List, SectionRef, section_bytes, printing-as, printing-begun}
use Rattle.cw_index.proofs.PrintingLaws.{printing-next, printing-stop}
use Rattle.cw_index.proofs.SectionLaws.{listed_bytes, printed-more}
use Rattle.cw_index.proofs.index.put_sections.Goals as goal

pub loop-section-init : goal.loop-section-init
loop-section-init g c = printing-begun _ _ _

pub returns-in_err-put_section : goal.returns-in_err-put_section
returns-in_err-put_section g c =
    let f : SectionRef → List ℕ = section_bytes c.args.book.now.outline.sections in
    printing-stop _ (listed_bytes f c.args.heading.now.underlined_only
    (drop (c.loop-section.section-index + 1) c.args.heading.now.sections.now)) (printing-as
    (printed-more f c.args.heading.now.underlined_only c.args.heading.now.sections.now c.loop-section.section-index _
    c.loop-section-test.true) c.loop-section.invariant) c.in_err-put_section.ensures c.from_residual.ensures.1

pub loop-section-preserved : goal.loop-section-preserved
loop-section-preserved g c =
    let f : SectionRef → List ℕ = section_bytes c.args.book.now.outline.sections in
    printing-next _ (listed_bytes f c.args.heading.now.underlined_only
    (drop (c.loop-section.section-index + 1) c.args.heading.now.sections.now))
    (printing-as (printed-more f c.args.heading.now.underlined_only c.args.heading.now.sections.now
    c.loop-section.section-index _ c.loop-section-test.true) c.loop-section.invariant) c.in_ok-put_section.ensures
