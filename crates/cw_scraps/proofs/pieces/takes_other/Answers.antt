-- The second scrap is a statement, or it isn't.
use Rattle.cw_scraps.proofs.Terms.{◌≡◌, ℕ, ◌+◌, Bool, false, not, ◌&&◌, List, ap, drop, get_or, subst, sym, ◌∙◌}
use Rattle.cw_scraps.proofs.Terms.{get_or-drop, End, Flags, is_stmt, takes_other, LineEntry, entry_cats, no_entry}
use Rattle.cw_table.specs.{declared.types.Choice.Choice, declared.types.Choice.TheVariants.Separate}
use Rattle.cw_scraps.proofs.RowPieces.{cats-entry}
use Rattle.cw_scraps.proofs.pieces.takes_other.Goals as goal

second-stmt : (flags : Flags) (choice : Choice) (line : List LineEntry) (place : ℕ) (entry : LineEntry) (found : Bool)
    → choice ≡ Separate → flags.separate ≡ false → entry ≡ get_or line (place + 1) no_entry
    → found ≡ is_stmt entry.cat → found ≡ takes_other flags choice (entry_cats (drop place line))
second-stmt flags choice line place entry found is apart there e =
    let cats = entry_cats (drop place line) in
    let cat_is : entry.cat ≡ get_or cats 1 End = ap (λ (x : LineEntry). x.cat) (there
    ∙ sym (get_or-drop place line 1 no_entry)) ∙ sym (cats-entry (drop place line) 1) in
    subst (λ c. found ≡ takes_other flags c cats) (sym is)
    (e ∙ (ap is_stmt cat_is ∙ ap (λ b. not b && is_stmt (get_or cats 1 End)) (sym apart)))

pub returns-then-not-flags : goal.returns-then-not-flags
returns-then-not-flags c = second-stmt c.args.flags.now c.args.choice c.args.line.now c.args.place c.entry.result
    c.is_stmt.result c.in-Separate.is c.if-not-flags.true c.entry.ensures c.is_stmt.ensures
