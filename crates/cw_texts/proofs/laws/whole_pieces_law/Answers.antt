-- C texts in TeX parts are whole, since TeX text goes on token by token and C texts are nested.
use Rattle.cw_texts.proofs.WholePieces.{pieces-whole, tex-parts-whole}
use Rattle.cw_texts.proofs.laws.whole_pieces_law.Goals as goal

pub returns-clause-pieces : goal.returns-clause-pieces
returns-clause-pieces c = pieces-whole c.tex_texts_law.ensures c.nesting_law.ensures.c_texts

pub returns-clause-tex_parts : goal.returns-clause-tex_parts
returns-clause-tex_parts c = tex-parts-whole c.tex_texts_law.ensures c.nesting_law.ensures.c_texts
