-- The brackets and the items, one behind another.
use Rattle.cw_print.proofs.Terms.{ℕ, Bool, ◌&&◌, List, ◌++◌, ap, ◌∙◌, sym, length, codes, append_assoc, ident_bytes}
use Rattle.cw_print.proofs.Terms.{printed, items_are, prints-bytes, prints-failing, prints-longer, prints-then, word_at}
use Rattle.cw_print.proofs.Terms.{shown, source_of, PrintSource, wrapped}
use Rattle.cw_print.proofs.NameLaws.{only-named, only-printed}
use Rattle.cw_print.proofs.printing.print_flat.Goals as goal
use Rattle.cw_base.specs.Conditions.{list_if}

pub print_name-requires-clause-named : goal.print_name-requires-clause-named
print_name-requires-clause-named g c =
    only-named (length c.args.c.book.now.names) c.in-Some.name c.args.items.now c.in-Some.ensures c.requires.come

pub returns-in-Some : goal.returns-in-Some
returns-in-Some g c = prints-bytes
    ((λ i. wrapped (c.is_wrapped-wraps.ensures i) (word_at ident_bytes c.args.c.book.now.names c.in-Some.name.index))
    ∙ ap (wrapped (c.args.c.inner && c.args.c.flags.now.wrap)) (sym (only-printed c.args.c.inner
    (source_of c.args.c) c.in-Some.name c.args.items.now c.in-Some.ensures))) c.print_name.ensures

pub print_items-requires-clause-come : goal.print_items-requires-clause-come
print_items-requires-clause-come g c = rw (ap items_are c.items.ensures) c.requires.come

pub returns-in_err-put_bracket : goal.returns-in_err-put_bracket
returns-in_err-put_bracket g c =
    let later : List ℕ = printed c.args.c.inner (shown (source_of c.args.c) (items_are c.args.items.now))
    ++ list_if (c.args.c.inner && c.args.c.flags.now.wrap) (codes "}") in
    prints-failing (ap (λ (b : Bool). (list_if b (codes "\\PB{")) ++ later) c.is_wrapped-wraps.ensures)
    (prints-longer later c.in_err-put_bracket.ensures) c.from_residual.ensures.1

pub returns-in_err-print_items : goal.returns-in_err-print_items
returns-in_err-print_items g c =
    let s : PrintSource = source_of c.args.c in
    let wraps : Bool = c.args.c.inner && c.args.c.flags.now.wrap in
    prints-failing ((λ i. (list_if (c.is_wrapped-wraps.ensures i) (codes "\\PB{") ++ printed c.args.c.inner
    (shown s (items_are (c.items.ensures i)))) ++ list_if wraps (codes "}"))
    ∙ append_assoc (list_if wraps (codes "\\PB{")) (printed c.args.c.inner (shown s (items_are c.args.items.now)))
    (list_if wraps (codes "}"))) (prints-longer (list_if wraps (codes "}"))
    (prints-then c.in_ok-put_bracket.ensures c.in_err-print_items.ensures)) c.from_residual-in_err-print_items.ensures.1

pub returns : goal.returns
returns g c = prints-bytes (λ i. list_if (c.is_wrapped-wraps.ensures i) (codes "\\PB{") ++ (printed c.args.c.inner
    (shown (source_of c.args.c) (items_are (c.items.ensures i))) ++ list_if (c.is_wrapped-wraps.ensures i) (codes "}")))
    (prints-then c.in_ok-put_bracket.ensures (prints-then c.in_ok-print_items.ensures c.put_bracket-2.ensures))
