-- A name is there where its pair is.
use Rattle.cw_texts.proofs.Terms.{ap, ◌∙◌, is_some, name_at}
use Rattle.cw_secnames.specs.Kept.{id}
use Rattle.cw_texts.proofs.PrintedLaws.{mapped}
use Rattle.cw_texts.proofs.printed.is_kept.Goals as goal

pub returns : goal.returns
returns c = c.is_some.ensures ∙ ap is_some c.at.ensures ∙ mapped id (name_at c.args.place c.args.uses.now)
