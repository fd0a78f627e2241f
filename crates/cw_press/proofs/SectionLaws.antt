-- The section of a number is one, and what is printed with a section at hand.
use Rattle.cw_press.proofs.Terms.{◌≡◌, ℕ, List, Option, Some, Result, Flags, PutError, Book, Section, Counts, setting}
use Rattle.cw_press.proofs.Terms.{Press, Weaves, code_beside, lasting, ap, refl, subst}
use Rattle.cw_secnames.specs.Uses.{NameUse}
use Rattle.cw_press.specs.{Done.Done, Texts.Lasting, Texts.Setting, declared.beside.Beside.Beside}
use Rattle.cw_press.specs.{declared.section_at_hand.SectionAtHand.SectionAtHand}
use Rattle.cw_press.specs.model.PartForms.{IsAtHand, part_setting}
use Rattle.cw_press.proofs.WeavingLaws.{weaves-as}

pub one-section : (found : Option Section) (s s' : Section) → found ≡ Some s → found ≡ Some s' → s ≡ s'
one-section found s s' is is' = cc

-- ## The section at hand

at-setting : {text : List ℕ} {flags : Flags} {uses : List NameUse} {n : ℕ} {s : Section} {p : SectionAtHand}
    (l : Lasting) → IsAtHand text flags uses n s p
    → part_setting p l ≡ record { text = text; flags = flags; book = l; section = n }
at-setting l h = rw (h.text_is, h.flags_are, h.number_is) refl

-- What is printed with it is what its setting says, with the code that stands beside the number.
pub at-hand-woven : (text : List ℕ) (flags : Flags) (n : ℕ) (b : Book) (d : Beside → Setting → Done ℕ) {s : Section}
    {p : SectionAtHand} {old new : Press} {result : Result Counts PutError} → IsAtHand text flags b.name_uses n s p
    → Weaves (part_setting p (lasting b)) (d p.beside (part_setting p (lasting b))) old new result
    → Weaves (setting text flags n b) (d (code_beside text flags b.name_uses s) (setting text flags n b)) old new result
at-hand-woven text flags n b d {p = p} {old = old} {new = new} {result = result} h woven =
    weaves-as (ap (λ (code : Beside). d code (setting text flags n b)) h.beside_is)
    (subst (λ (s : Setting). Weaves s (d p.beside s) old new result) (at-setting (lasting b) h) woven)
