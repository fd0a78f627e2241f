-- `put_inner`: where the translation is refused nothing is printed. Clause `woven` where no more comes of `print` is
-- said here, so that a wrong one fails at once.
use Rattle.cw_texpart.proofs.Terms.{arith, subst, true, common_steps, Inner, TexSetting, tex_setting, lasting}
use Rattle.cw_texpart.proofs.Terms.{text_done, Weaves, press}
use Rattle.cw_press.proofs.TextLaws.{untranslated-woven}
use Rattle.cw_texpart.proofs.tex_parts.put_inner.Goals as goal

pub returns-in_err-translated-clause-woven : goal.returns-in_err-translated-clause-woven
returns-in_err-translated-clause-woven g c = subst (λ (t : TexSetting). Weaves (tex_setting t (lasting c.args.book.now))
    (text_done (tex_setting t (lasting c.args.book.now)) Inner true c.args.part c.args.book.now.names)
    (press g.D.Desk.told c.args.book.now c.args.sheet.now c.args.steps.now)
    (press g.D.Desk.told c.translate_into.new.book c.args.sheet.now c.translate_into.new.steps) c.from_residual.result)
    c.t.view_is (untranslated-woven c.in_err-translated.ensures.translates c.from_residual.ensures.1)

pub returns-in_err-print-clause-woven : goal.returns-in_err-print-clause-woven
returns-in_err-print-clause-woven g c = grind (arith, common_steps)
