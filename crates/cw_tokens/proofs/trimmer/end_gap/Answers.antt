-- An item that ends no text leaves the gap before it as it is.
use Rattle.cw_tokens.proofs.Standing.{gap-untouched}
use Rattle.cw_tokens.proofs.trimmer.end_gap.Goals as goal

pub returns-in_default-clause-items : goal.returns-in_default-clause-items
returns-in_default-clause-items c = gap-untouched c.args.items.now.items c.args.gap c.args.next c.in_default.not-Close
