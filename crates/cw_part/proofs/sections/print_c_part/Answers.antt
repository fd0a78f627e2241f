-- The C part stands behind its opening, where there is one.
use Rattle.cw_part.proofs.Terms.{◌||◌, ◌∙◌, ℕ, false, nat_lt, sym, CPart, scraps_in, paragraph_if, part_setting, Done}
use Rattle.cw_part.proofs.Terms.{lasting, text_done, weaves-as}
use Rattle.cw_part.proofs.BareParts.{no-part}
use Rattle.cw_part.proofs.sections.print_c_part.Goals as goal

pub returns-then-has_no_part-clause-weaves : goal.returns-then-has_no_part-clause-weaves
returns-then-has_no_part-clause-weaves g c = no-part (part_setting c.args.p (lasting c.args.book.now)) c.args.p.beside
    c.args.section (sym c.has_no_part.ensures ∙ c.if-has_no_part.true) c.none.ensures.scraps c.none.ensures.productions

pub returns-clause-weaves : goal.returns-clause-weaves
returns-clause-weaves g c =
    let d : Done ℕ = text_done
    (part_setting c.args.p (lasting c.args.book.now)) CPart false c.args.section.c_part c.args.book.now.names in
    weaves-as (λ i. paragraph_if (c.is_some.ensures i || nat_lt 0 (scraps_in d.ended)) (c.part_opening.ensures i) d)
    c.print_paragraph.ensures.weaves
