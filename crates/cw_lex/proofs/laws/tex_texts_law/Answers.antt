-- TeX text in which no part begins goes on token by token, its inner C texts and names being whole by themselves.
use Rattle.cw_lex.proofs.TexTexts.{tex-texts-go-on}
use Rattle.cw_lex.proofs.laws.tex_texts_law.Goals as goal

pub returns : goal.returns
returns c = tex-texts-go-on
