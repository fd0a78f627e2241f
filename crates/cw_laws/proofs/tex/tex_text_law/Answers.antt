-- Limbo and TeX text without codes and inner C text are printed as they are, and stand in the TeX file.
use Rattle.cw_laws.proofs.TexPlaces.{plain-text-is-kept}
use Rattle.cw_laws.proofs.tex.tex_text_law.Goals as goal

pub returns : goal.returns
returns c = plain-text-is-kept
