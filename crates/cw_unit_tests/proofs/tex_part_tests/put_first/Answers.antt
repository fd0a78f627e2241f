-- The first section's C texts were found whole.
use Rattle.cw_press.proofs.SectionLaws.{one-section}
use Rattle.cw_texpart.proofs.SectionLaws.{whole-as}
use Rattle.cw_unit_tests.proofs.tex_part_tests.put_first.Goals as goal

pub copy_tex-requires-clause-whole : goal.copy_tex-requires-clause-whole
copy_tex-requires-clause-whole g c = λ s there.
    whole-as c.text.ensures.lines (one-section _ c.section-section.result s c.section-section.ensures there)
    (c.in_ok-whole.ensures.whole c.if-not-whole.false)
