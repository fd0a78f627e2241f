-- What a paragraph prints, as calls are given it.
use Rattle.std.specs.Prelude.{ℕ, false, List}
use Rattle.cw_names.specs.Names.{Entry}
use Rattle.cw_part.specs.declared.paragraphs.Paragraph.{Paragraph}
use Rattle.cw_press.specs.declared.section_at_hand.SectionAtHand.{SectionAtHand}
use Rattle.cw_press.specs.model.PartForms.{part_setting}
use Rattle.cw_press.specs.Done.{Done}
use Rattle.cw_press.specs.Texts.{Lasting, text_done}

-- the C text of a paragraph
abbrev pub text_of : SectionAtHand → Paragraph → Lasting → List Entry → Done ℕ
text_of p paragraph book names = text_done (part_setting p book) paragraph.mode false paragraph.span names
