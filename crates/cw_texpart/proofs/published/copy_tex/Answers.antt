-- The section is the one of this number, and the text is that of the web.
use Rattle.std.proofs.Common.{◌^◌}
use Rattle.cw_texpart.proofs.Terms.{refl, sym, arith, common_steps, subst, ℕ, List, All, ◌≤◌, length, puts-nothing}
use Rattle.cw_texpart.proofs.Terms.{Memory, Setting, IsWholePiece, tex_pieces_of}
use Rattle.cw_press.specs.declared.beside.Beside.{Beside}
use Rattle.cw_texpart.specs.TexParts.{tex_by}
use Rattle.cw_press.proofs.SectionLaws.{at-hand-woven, one-section}
use Rattle.cw_texpart.proofs.SectionLaws.{whole-as, woven-as}
use Rattle.cw_press.proofs.WeavingLaws.{weaves-refused}
use Rattle.cw_texpart.proofs.published.copy_tex.Goals as goal

pub returns-in_err-at : goal.returns-in_err-at
returns-in_err-at g c = λ s there.
    weaves-refused Memory (puts-nothing _ _ _ c.from_residual.ensures.1) refl (omega arith) c.from_residual.ensures.1

pub print_tex-requires-clause-short : goal.print_tex-requires-clause-short
print_tex-requires-clause-short g c =
    subst (λ (text : List ℕ). length text ≤ 2 ^ 24) (sym c.in_ok-at.ensures.text_is) c.text-text.ensures.limit

pub print_tex-requires-clause-whole : goal.print_tex-requires-clause-whole
print_tex-requires-clause-whole g c =
    subst (λ (text : List ℕ). All (IsWholePiece text) (tex_pieces_of text c.section-printed.result.tex))
    (sym c.in_ok-at.ensures.text_is) (whole-as {s = c.section-printed.result} (sym c.text-text.ensures.lines) refl
    (c.requires.whole c.section-printed.result c.section-printed.ensures))

pub returns : goal.returns
returns g c = λ s there. grind (
  arith,
  common_steps,
  woven-as c.args.flags.now c.args.section c.args.book.now c.text-text.ensures.lines
      (one-section _ c.section-printed.result s c.section-printed.ensures there)
      (at-hand-woven c.text-text.result.now c.args.flags.now c.args.section c.args.book.now
      (λ (code : Beside) (s : Setting). tex_by code s c.section-printed.result c.args.book.now.names)
      c.in_ok-at.ensures c.print_tex.ensures.weaves),
)
