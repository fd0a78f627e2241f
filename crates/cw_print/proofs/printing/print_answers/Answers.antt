-- The items are those of the list's tree, trimmed.
use Rattle.cw_print.proofs.Terms.{◌&&◌, List, ap, refl, sym, subst, length, Item, printed, AllMay}
use Rattle.cw_print.proofs.Terms.{MayCome, shown, source_of, wrapped}
use Rattle.cw_tokens.specs.Shapes.{unfolded}
use Rattle.cw_lines.specs.laws.WritesLaws.{puts-nothing}
use Rattle.cw_print.proofs.Terms.{prints-bytes}
use Rattle.cw_print.proofs.ComingLaws.{trimmed-may}
use Rattle.cw_print.proofs.printing.print_answers.Goals as goal

pub returns-in_err-items : goal.returns-in_err-items
returns-in_err-items g c = record
    { puts = puts-nothing _ _ _ c.from_residual.ensures.1; same = record { line = refl; desk = refl } }

pub print_flat-requires-clause-come : goal.print_flat-requires-clause-come
print_flat-requires-clause-come g c = subst
    (λ (items : List Item). AllMay (MayCome (length c.args.c.book.now.names)) 0 items) (sym c.in_ok-items.ensures.items)
    (trimmed-may (length c.args.c.book.now.names) (unfolded c.args.store.now.lists c.args.id.index) c.requires.named)

pub returns : goal.returns
returns g c = prints-bytes (ap (λ (items : List Item). wrapped (c.args.c.inner && c.args.c.flags.now.wrap) (printed
    c.args.c.inner (shown (source_of c.args.c) items))) c.in_ok-items.ensures.items) c.print_flat.ensures
