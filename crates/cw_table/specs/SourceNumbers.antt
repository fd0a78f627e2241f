-- The numbers of the source tokens of scraps, in order: productions keep them.
use Rattle.std.specs.Prelude.{◌≡◌, ℕ, true, List, [], ◌∷◌, ◌++◌}
use Rattle.std.specs.List.{list_all}
use Rattle.cw_base.specs.declared.flags.Flags.{Flags}
use Rattle.cw_trees.specs.Flat.{struck}
use Rattle.cw_trees.specs.Joining.{Scrap}
use Rattle.cw_table.specs.declared.types.Row.{Row}
use Rattle.cw_table.specs.Rewriting.{State}
use Rattle.cw_table.specs.Normal.{is_fine, steps, normal}
use Rattle.cw_table.specs.Sound.{row_is_sound}

-- those of all trees, without those inside section names
abbrev pub numbers_of : List Scrap → List ℕ
numbers_of [] = []
numbers_of (scrap ∷ scraps) = struck scrap.tree ++ numbers_of scraps

-- each source token stands in the scraps once and in order, however many productions were done
abbrev pub StepsKeepNumbers : Type 0
StepsKeepNumbers = (rows : List Row) (flags : Flags) (n : ℕ) (state : State) → list_all row_is_sound rows ≡ true
    → list_all is_fine state.scraps ≡ true → numbers_of (steps rows flags n state).scraps ≡ numbers_of state.scraps

abbrev pub NormalKeepsNumbers : Type 0
NormalKeepsNumbers = (rows : List Row) (flags : Flags) (state : State) → list_all row_is_sound rows ≡ true
    → list_all is_fine state.scraps ≡ true → numbers_of (normal rows flags state).scraps ≡ numbers_of state.scraps
