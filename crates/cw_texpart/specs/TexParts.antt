-- The head of a section, and its TeX part as it is printed.
use Rattle.std.specs.Prelude.{ℕ, Bool, true, List, [], ◌∷◌, if◌then◌else◌}
use Rattle.cw_rules.specs.declared.tokens.Mode.TheVariants as modes
use Rattle.cw_names.specs.Names.{Entry}
use Rattle.cw_phase1.specs.declared.sections.Section.{Section}
use Rattle.cw_texts.specs.TexPieces.{TexPiece, Copied, InnerText, Cited, tex_pieces_of}
use Rattle.cw_press.specs.Beside.{beside_in, is_nothing}
use Rattle.cw_press.specs.declared.beside.Beside.{Beside}
use Rattle.cw_press.specs.Done.{Done, done_behind, as_it_is, reprinted, done_then}
use Rattle.cw_texpart.specs.Heads.{head}
use Rattle.cw_press.specs.Inks.{Ink, laid, prints, token_inks}
use Rattle.cw_press.specs.Texts.{Setting, name_done, text_done}

-- ## What its pieces print

abbrev pub piece_done : Setting → TexPiece → List Entry → Done Ink
piece_done s (Copied token) names = as_it_is (token_inks s.text token.kind token) names
piece_done s (InnerText part) names = reprinted prints (text_done s modes.Inner true part names)
piece_done s (Cited part) names = reprinted prints (name_done s true part names)

abbrev pub pieces_done : Setting → List TexPiece → List Entry → Done Ink
pieces_done s [] names = as_it_is [] names
pieces_done s (piece ∷ pieces) names = done_then (piece_done s piece names) (pieces_done s pieces)

-- the head, and the TeX part directly behind it, which prints nothing where code stands beside the number
abbrev pub head_and_tex : Bool → List ℕ → Setting → Section → List Entry → Done ℕ
head_and_tex goes_on front s section names =
    if goes_on then done_behind front (reprinted (laid true) (pieces_done s (tex_pieces_of s.text section.tex) names))
    else as_it_is front names

-- the same of a section that has this code beside its number
abbrev pub tex_by : Beside → Setting → Section → List Entry → Done ℕ
tex_by code s section names =
    head_and_tex (is_nothing code) (head s.flags.ranged s.text s.section section) s section names

abbrev pub tex_done : Setting → Section → List Entry → Done ℕ
tex_done s section names = tex_by (beside_in s section) s section names
