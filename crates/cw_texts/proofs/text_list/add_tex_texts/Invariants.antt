-- The pieces so far have given their texts.
use Rattle.cw_texts.proofs.Terms.{◌≡◌, ◌++◌, length, tex_pieces_of, tex_refs}
use Rattle.cw_texts.proofs.text_list.add_tex_texts.Given as goal

abbrev pub invariant-all : goal.invariant-all
invariant-all l = l.list ++ tex_refs l.uses l.number l.pieces ≡ l.fn.list ++ tex_refs l.uses l.number
    (tex_pieces_of l.text l.fn.part)

abbrev pub decreases-all : goal.decreases-all
decreases-all l = length l.pieces
