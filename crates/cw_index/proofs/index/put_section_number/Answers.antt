-- A section's number is put with its mark where the book has the section as changed.
use Rattle.cw_index.proofs.Terms.{Bool, ap, prints-bytes, section_number}
use Rattle.cw_index.proofs.index.put_section_number.Goals as goal

pub returns : goal.returns
returns g c =
    prints-bytes (ap (λ (changed : Bool). section_number c.args.number changed) c.is_changed.ensures)
    c.put_number.ensures
