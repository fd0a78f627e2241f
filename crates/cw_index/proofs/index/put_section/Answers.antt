-- A section that is listed, or none.
use Rattle.cw_index.proofs.Terms.{sym, ◌∙◌, prints-bytes, prints-none, section_bytes}
use Rattle.cw_index.proofs.SectionLaws.{printed-none, printed-one}
use Rattle.cw_index.proofs.index.put_section.Goals as goal

pub returns-then-lists : goal.returns-then-lists
returns-then-lists g c = prints-bytes (sym (printed-one (section_bytes c.args.book.now.outline.sections)
    c.args.heading.now.underlined_only c.args.section (sym c.lists.ensures ∙ c.if-lists.true))) c.put_listed.ensures

pub returns : goal.returns
returns g c = prints-bytes (sym (printed-none (section_bytes c.args.book.now.outline.sections)
    c.args.heading.now.underlined_only c.args.section (sym c.lists.ensures ∙ c.if-lists.false))) (prints-none _ _ _)
