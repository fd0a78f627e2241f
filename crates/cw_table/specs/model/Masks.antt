-- The models beside `specs/Masks`.
use Rattle.std.specs.Prelude.{ℕ, List, map}
use Rattle.std.specs.Simd.Lanes.{mask_l}
use Rattle.cw_base.specs.declared.category.Cat.{Cat}
use Rattle.cw_table.specs.declared.types.Row.{Row}
use Rattle.cw_table.specs.Masks.{admits}

-- one bit for each row, the first row in the lowest bit
abbrev pub mask_of : List Row → ℕ → Cat → ℕ
mask_of rows q cat = mask_l (map (admits q cat) rows)
