-- A change of a category leaves as many names.
use Rattle.std.proofs.Common.{◌≡◌, ℕ, zero, suc, List, [], ◌∷◌, length, refl, ap, ◌∙◌, arith}
use Rattle.cw_base.specs.declared.category.Cat.{Cat}
use Rattle.cw_names.specs.Names.{Entry, with_category}
use Rattle.cw_unit_tests.proofs.name_tests.changed.Goals as goal

length-with : (place : ℕ) (category : Cat) (names : List Entry) → length (with_category place category names)
    ≡ length names
length-with place category [] = refl
length-with zero category (e ∷ names) = refl
length-with (suc place) category (e ∷ names) = ap suc (length-with place category names)

pub category-requires : goal.category-requires
category-requires c = omega (arith, c.requires.first, ap length c.set_category.ensures ∙ length-with _ _ _)

pub category-requires-2 : goal.category-requires-2
category-requires-2 c = omega (arith, c.requires.second, ap length c.set_category.ensures ∙ length-with _ _ _)

pub is_built_in-requires : goal.is_built_in-requires
is_built_in-requires c = omega (arith, c.requires.first, ap length c.set_category.ensures ∙ length-with _ _ _)
