-- The plain text of a translation has the bytes of each token that is shown, and little else.
use Rattle.cw_plain_laws.proofs.{Additions.plain-adds-little, TranslatedWalks.plain-has-each}
use Rattle.cw_plain_laws.proofs.laws.tokens_law.Goals as goal

pub returns : goal.returns
returns c = record { each = plain-has-each; added = plain-adds-little }
