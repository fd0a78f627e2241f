-- The section is the one of this number, and the text is that of the web.
use Rattle.std.proofs.Common.{◌^◌}
use Rattle.cw_part.proofs.Terms.{refl, sym, arith, common_steps, puts-nothing, Memory, rest_by, Beside, Setting, subst}
use Rattle.cw_part.proofs.Terms.{weaves-refused, List, ℕ, ◌≤◌, length, IsWholeRest}
use Rattle.cw_part.proofs.SectionLaws.{whole-as, woven-as}
use Rattle.cw_press.proofs.SectionLaws.{at-hand-woven, one-section}
use Rattle.cw_part.proofs.published.weave_section.Goals as goal

pub returns-in_err-at : goal.returns-in_err-at
returns-in_err-at g c = λ s there.
    weaves-refused Memory (puts-nothing _ _ _ c.from_residual.ensures.1) refl (omega arith) c.from_residual.ensures.1

pub print_rest-requires-clause-short : goal.print_rest-requires-clause-short
print_rest-requires-clause-short g c =
    subst (λ (text : List ℕ). length text ≤ 2 ^ 24) (sym c.in_ok-at.ensures.text_is) c.text-text.ensures.limit

pub print_rest-requires-clause-whole : goal.print_rest-requires-clause-whole
print_rest-requires-clause-whole g c =
    subst (λ (text : List ℕ). IsWholeRest text c.section-printed.result) (sym c.in_ok-at.ensures.text_is)
    (whole-as (sym c.text-text.ensures.lines) refl
    (c.requires.whole c.section-printed.result c.section-printed.ensures))

pub returns : goal.returns
returns g c = λ s there. grind (
  arith,
  common_steps,
  woven-as c.args.flags.now c.args.section c.args.book.now c.text-text.ensures.lines
      (one-section _ c.section-printed.result s c.section-printed.ensures there)
      (at-hand-woven c.text-text.result.now c.args.flags.now c.args.section c.args.book.now
      (λ (code : Beside) (s : Setting). rest_by code s c.section-printed.result c.args.book.now.names)
      c.in_ok-at.ensures c.print_rest.ensures.weaves),
)
