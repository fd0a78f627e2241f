-- The section's C texts were found whole.
use Rattle.cw_part.proofs.SectionLaws.{whole-as}
use Rattle.cw_press.proofs.SectionLaws.{one-section}
use Rattle.cw_unit_tests.proofs.part_tests.put_rest.Goals as goal

pub weave_section-requires-clause-whole : goal.weave_section-requires-clause-whole
weave_section-requires-clause-whole g c = λ s there.
    whole-as c.text.ensures.lines (one-section _ c.section-found.result s c.section-found.ensures there)
    (c.is_whole_rest-whole.ensures.whole c.if-not-whole.false)
