-- Underlined, or not.
use Rattle.cw_index.proofs.Terms.{Bool, ap, sym, prints-bytes, section_number, number_bytes}
use Rattle.cw_print.specs.Sources.{is_changed}
use Rattle.cw_index.proofs.index.put_reference.Goals as goal

pub returns-then-section : goal.returns-then-section
returns-then-section g c = prints-bytes (ap (λ (u : Bool). number_bytes u
    (section_number c.args.section.section (is_changed c.args.book.now.outline.sections c.args.section.section)))
    (sym c.if-section.true)) c.put_underlined.ensures

pub returns : goal.returns
returns g c = prints-bytes (ap (λ (u : Bool). number_bytes u (section_number c.args.section.section (is_changed
    c.args.book.now.outline.sections c.args.section.section))) (sym c.if-section.false)) c.put_section_number.ensures
