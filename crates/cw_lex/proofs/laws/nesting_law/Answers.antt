-- Answers are nested over C text, up to a section code that cuts it, and over TeX text.
use Rattle.cw_lex.proofs.{Nesting.c-texts-nested, Nesting.parts-nested, TexNesting.tex-texts-nested}
use Rattle.cw_lex.proofs.laws.nesting_law.Goals as goal

pub returns-clause-c_texts : goal.returns-clause-c_texts
returns-clause-c_texts c = c-texts-nested

pub returns-clause-up_to_sections : goal.returns-clause-up_to_sections
returns-clause-up_to_sections c = parts-nested

pub returns-clause-tex_texts : goal.returns-clause-tex_texts
returns-clause-tex_texts c = tex-texts-nested
