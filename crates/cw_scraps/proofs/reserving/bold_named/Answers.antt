-- The scrap that a row names is reserved where it is exactly an identifier, and the others stay as they are.
use Rattle.cw_scraps.proofs.Terms.{◌++◌, take, drop, sym, ap, ◌∙◌, bolded_at, scraps_of}
use Rattle.cw_scraps.proofs.Reservings.{bold-scraps, changes-line, entry-there}
use Rattle.cw_scraps.proofs.Changings.{reserves-changes, tied-idle}
use Rattle.cw_scraps.proofs.reserving.bold_named.Goals as goal

pub bare_name-requires : goal.bare_name-requires
bare_name-requires c =
    record { list = rw c.entry.ensures (entry-there _ _ _ c.requires.roots (c.requires.named _ c.in-Some.is)) }

pub reserve_ident-name-requires : goal.reserve_ident-name-requires
reserve_ident-name-requires c =
    record { list = rw c.entry.ensures (entry-there _ _ _ c.requires.roots (c.requires.named _ c.in-Some.is)) }

pub returns-then-is_some-clause-scraps : goal.returns-then-is_some-clause-scraps
returns-then-is_some-clause-scraps c = bold-scraps _ _ _ _ _ _ (tied-idle c.args.store.now c.requires.idle
    c.tied_law.ensures) c.requires.roots (c.requires.named _ c.in-Some.is) (rw c.entry.ensures at
    c.bare_name.ensures.name) (sym c.is_some.ensures ∙ c.if-is_some.true) (rw c.entry.ensures at
    c.reserve_ident-name.ensures.reserves) ∙ ap (λ o. take c.args.place (scraps_of c.args.store.now.lists
    c.args.line.now) ++ bolded_at o (drop c.args.place (scraps_of c.args.store.now.lists c.args.line.now)))
    (sym c.in-Some.is)

pub returns-then-is_some-clause-lists : goal.returns-then-is_some-clause-lists
returns-then-is_some-clause-lists c = changes-line _ _ _ _ (c.requires.named _ c.in-Some.is)
    (reserves-changes _ _ _ (rw c.entry.ensures at c.reserve_ident-name.ensures.reserves))
