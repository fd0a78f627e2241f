-- The pieces of a TeX part.
use Rattle.std.specs.Prelude.{ℕ, zero, suc, List, [], ◌∷◌}
use Rattle.cw_base.specs.declared.span.Span.{Span}
use Rattle.cw_rules.specs.declared.codes.Code.TheVariants as at
use Rattle.cw_rules.specs.declared.tokens.TokKind.{TokKind}
use Rattle.cw_rules.specs.declared.tokens.TokKind.TheVariants as kinds
use Rattle.cw_rules.specs.declared.tokens.Mode.TheVariants as modes
use Rattle.cw_rules.specs.Answers.{Answer, Seen, Token, Begin, Finish, Note}
use Rattle.cw_phase1.specs.Sections.{span}
use Rattle.cw_texts.specs.Scans.{scanned}

-- A token that is copied, an inner C text without its bars, and a section name that is cited.
pub data TexPiece : Type 0 where
  Copied : (token : Seen) → TexPiece
  InnerText : (span : Span) → TexPiece
  Cited : (span : Span) → TexPiece

abbrev pub token_piece : TokKind → Seen → TexPiece
token_piece (kinds.Code at.SectionName) token = Cited token.span
token_piece (kinds.Code at.FileName) token = Cited token.span
token_piece kind token = Copied token

-- where the outermost text begins, behind one that begins at a place
abbrev pub outermost : ℕ → ℕ → ℕ → ℕ
outermost zero start place = place
outermost (suc depth) start place = start

-- The pieces, where so many texts are open, the outermost of which begins at `start`.
abbrev pub tex_pieces : ℕ → ℕ → List Answer → List TexPiece
tex_pieces depth start [] = []
tex_pieces depth start (Note note place ∷ answers) = tex_pieces depth start answers
tex_pieces depth start (Begin token ∷ answers) = tex_pieces (suc depth) (outermost depth start token.span.«end») answers
tex_pieces zero start (Token token ∷ answers) = token_piece token.kind token ∷ tex_pieces zero start answers
tex_pieces (suc depth) start (Token token ∷ answers) = tex_pieces (suc depth) start answers
tex_pieces zero start (Finish token ∷ answers) = tex_pieces zero start answers
tex_pieces (suc zero) start (Finish token ∷ answers) =
    InnerText (span start token.span.start) ∷ tex_pieces zero start answers
tex_pieces (suc (suc depth)) start (Finish token ∷ answers) = tex_pieces (suc depth) start answers

-- the pieces of the TeX part that stands at a span
abbrev pub tex_pieces_of : List ℕ → Span → List TexPiece
tex_pieces_of text part = tex_pieces zero zero (scanned modes.TexText text part)
