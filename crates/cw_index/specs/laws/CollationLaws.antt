-- The collation is a total order.
use Rattle.std.specs.Cmp.{IsTotalOrder, nat_cmp_total, on_total, then_total}
use Rattle.std.specs.Cmp.Lexicographic.{lists_total}
use Rattle.std.proofs.lemmas.Cmp.{nat_list_cmp_total}
use Rattle.cw_index.specs.Collation.{class_of, class_cmp, class_rank, entry_cmp, entry_kind_place}
use Rattle.cw_index.specs.Collation.{text_cmp, value}

class_cmp-total : IsTotalOrder class_cmp
class_cmp-total = then_total (on_total class_rank nat_cmp_total) (on_total value nat_cmp_total)

text_cmp-total : IsTotalOrder text_cmp
text_cmp-total = then_total (lists_total (on_total class_of class_cmp-total)) nat_list_cmp_total

pub entry_cmp-total : IsTotalOrder entry_cmp
entry_cmp-total =
    then_total (on_total (λ e. e.text) text_cmp-total)
    (on_total (λ e. e.kind) (on_total entry_kind_place nat_cmp_total))
