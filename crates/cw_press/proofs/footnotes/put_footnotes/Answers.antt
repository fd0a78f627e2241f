-- The footnotes stand in the first section that defines the name.
use Rattle.cw_press.proofs.Terms.{sym, ◌∙◌, prints-bytes, prints-none, name_footnotes}
use Rattle.cw_press.proofs.FootnoteLaws.{named, unnamed}
use Rattle.cw_press.proofs.footnotes.put_footnotes.Goals as goal

pub returns-in-None : goal.returns-in-None
returns-in-None g c = prints-bytes (unnamed (name_footnotes c.args.book.now.outline.sections) c.args.book.now.sec_names
    c.args.name c.args.number c.in-None.is) (prints-none _ _ _)

pub returns-then-defines_first : goal.returns-then-defines_first
returns-then-defines_first g c = prints-bytes
    (named (name_footnotes c.args.book.now.outline.sections) c.args.book.now.sec_names c.args.name c.in-Some.id
    c.args.number _ c.in-Some.is (sym c.defines_first.ensures ∙ c.if-defines_first.true)) c.put_name_footnotes.ensures

pub returns-else-defines_first : goal.returns-else-defines_first
returns-else-defines_first g c = prints-bytes
    (named (name_footnotes c.args.book.now.outline.sections) c.args.book.now.sec_names c.args.name c.in-Some.id
    c.args.number _ c.in-Some.is (sym c.defines_first.ensures ∙ c.if-defines_first.false)) (prints-none _ _ _)
