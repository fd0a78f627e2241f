-- The scrap that a row names for a mark lies in the line, and its list in the store.
use Rattle.cw_scraps.proofs.Reservings.{entry-there}
use Rattle.cw_scraps.proofs.reserving.named_ident.Goals as goal

pub first_ident-requires : goal.first_ident-requires
first_ident-requires c =
    record { list = rw c.entry.ensures (entry-there _ _ _ c.requires.roots (c.requires.named _ c.in-Some.is)) }
