-- The order of section names is total.
use Rattle.std.specs.Cmp.{IsTotalOrder, nat_cmp_total, on_total, then_total}
use Rattle.std.proofs.lemmas.Cmp.{nat_list_cmp_total}
use Rattle.cw_index.specs.Standing.{kind_place, stand_cmp}

pub stand_cmp-total : IsTotalOrder stand_cmp
stand_cmp-total =
    then_total (on_total (λ s. s.text) nat_list_cmp_total) (on_total (λ s. s.kind) (on_total kind_place nat_cmp_total))
