-- The laws of the parts of sections give those of their texts.
use Rattle.cw_each.proofs.RefsWhole.{texts-whole}
use Rattle.cw_each.proofs.laws.whole_texts_law.Goals as goal

pub returns : goal.returns
returns c = texts-whole c.whole_law.ensures c.whole_pieces_law.ensures.tex_parts c.whole_rest_law.ensures.rests
