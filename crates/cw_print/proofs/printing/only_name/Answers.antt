-- The one item is an identifier.
use Rattle.cw_print.proofs.Terms.{◌≡◌, [], ◌∷◌, ap, ◌∙◌, length, arith, FlatItem}
use Rattle.cw_print.proofs.NameLaws.{only-item}
use Rattle.cw_print.proofs.printing.only_name.Goals as goal

pub returns-in-Ident : goal.returns-in-Ident
returns-in-Ident c =
    let one : length c.args.items.now ≡ 1 = omega arith in (
      c.in-Ident._number,
      only-item c.args.items.now c.item.result one c.item.ensures
          ∙ ap (λ (item : FlatItem). item ∷ []) c.in-Ident.is,
    )
