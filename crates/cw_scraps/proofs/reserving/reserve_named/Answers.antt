-- The scrap that a row names has its first identifier reserved, and the others stay as they are.
use Rattle.cw_scraps.proofs.Terms.{◌++◌, take, drop, sym, ap, ◌∙◌, reserved_at, scraps_of}
use Rattle.cw_scraps.proofs.Reservings.{entry-there, reserve-scraps, changes-line}
use Rattle.cw_scraps.proofs.Changings.{reserves-changes, tied-idle}
use Rattle.cw_scraps.proofs.reserving.reserve_named.Goals as goal

pub reserve_ident-requires : goal.reserve_ident-requires
reserve_ident-requires c =
    record { list = rw c.entry.ensures (entry-there _ _ _ c.requires.roots (c.requires.named _ c.in-Some.is)) }

pub returns-in-Some-clause-scraps : goal.returns-in-Some-clause-scraps
returns-in-Some-clause-scraps c = reserve-scraps _ _ _ _ _ (tied-idle c.args.store.now c.requires.idle
    c.tied_law.ensures) c.requires.roots (c.requires.named _ c.in-Some.is) (rw c.entry.ensures at
    c.reserve_ident.ensures.reserves) ∙ ap (λ o. take c.args.place (scraps_of c.args.store.now.lists c.args.line.now)
    ++ reserved_at o (drop c.args.place (scraps_of c.args.store.now.lists c.args.line.now))) (sym c.in-Some.is)

pub returns-in-Some-clause-lists : goal.returns-in-Some-clause-lists
returns-in-Some-clause-lists c = changes-line _ _ _ _ (c.requires.named _ c.in-Some.is)
    (reserves-changes _ _ _ (rw c.entry.ensures at c.reserve_ident.ensures.reserves))
