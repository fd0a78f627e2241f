-- What a section is printed from, as calls are given it.
use Rattle.std.specs.Prelude.{◌≡◌, ℕ, List}
use Rattle.cw_base.specs.declared.flags.Flags.{Flags}
use Rattle.cw_phase1.specs.declared.sections.Section.{Section}
use Rattle.cw_secnames.specs.Uses.{NameUse}
use Rattle.cw_press.specs.Beside.{code_beside}
use Rattle.cw_press.specs.Texts.{Lasting, Setting}
use Rattle.cw_press.specs.declared.section_at_hand.SectionAtHand.{SectionAtHand}

-- this section is at hand, with the code that stands beside its number
pub record IsAtHand (text : List ℕ) (flags : Flags) (uses : List NameUse) (number : ℕ) (section : Section)
    (p : SectionAtHand)
    : Type 0 where
  pub text_is : p.text.now ≡ text
  pub flags_are : p.flags.now ≡ flags
  pub number_is : p.section ≡ number
  pub beside_is : p.beside ≡ code_beside text flags uses section

abbrev pub part_setting : SectionAtHand → Lasting → Setting
part_setting p book = record { text = p.text.now; flags = p.flags.now; book = book; section = p.section }
