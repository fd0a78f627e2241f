-- The productions that admit a category at a place of the window, as the bits of one number.
use Rattle.std.specs.Prelude.{ℕ, Bool, ◌||◌, nat_le}
use Rattle.cw_base.specs.declared.category.Cat.{Cat}
use Rattle.cw_base.specs.Category.{in_set}
use Rattle.cw_table.specs.declared.types.Row.{Row}
use Rattle.cw_table.specs.Rows.{test}

-- the row has no test of that number, or the test admits the category
abbrev pub admits : ℕ → Cat → Row → Bool
admits q cat row = nat_le row.test_count q || in_set (test row q) cat
