-- The texts of a section: those of its TeX part, its definitions, and its C part where it is printed.
use Rattle.cw_texts.proofs.Terms.{printed_definitions, is_printed, tex_pieces_of, definition_refs, part_refs, tex_refs}
use Rattle.cw_texts.proofs.RefLaws.{all-three, part-added}
use Rattle.cw_texts.proofs.text_list.add_section.Goals as goal

pub returns : goal.returns
returns c = all-three c.args.list.now (tex_refs c.args.uses.now c.args.number
    (tex_pieces_of c.args.text.now c.args.section.tex)) (definition_refs c.args.number (printed_definitions
    c.args.text.now c.args.section.definitions)) (part_refs (is_printed c.args.text.now c.args.uses.now c.args.section)
    c.args.number c.args.section.c_part) c.in_ok-add_tex_texts.ensures c.in_ok-add_definitions.ensures
    (part-added c.args.number c.args.section.c_part _ c.in_ok-printed.ensures c.in_ok-push_if.ensures)
