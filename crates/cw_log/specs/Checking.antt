-- What is found of the blocks of a log.
use Rattle.std.specs.Prelude.{◌≡◌, ◌-◌, Bool, List, [], ◌∷◌, length, sum_by, ℕ, if◌then◌else◌}
use Rattle.std.specs.Cmp.Lexicographic.{pointwise}
use Rattle.cw_base.specs.Flags.{start_flags}
use Rattle.cw_table.specs.Normal.{Production}
use Rattle.cw_table.specs.Productions.{productions}
use Rattle.cw_leaves.specs.LeafLines.{log_of_lines}
use Rattle.cw_logs.specs.LogReading.{IsLog}
use Rattle.cw_logs.specs.LogText.{Block}
use Rattle.cw_logs.specs.Judging.{common, same_item}
use Rattle.cw_log.specs.declared.checking.Checked.{Checked}
use Rattle.cw_log.specs.declared.checking.Checked.TheVariants.{Accepted, Rejected}

-- The productions that follow from the leaf lines of a block, with the flags of the start. No name has a number here:
-- leaf lines have the texts of names.
abbrev pub told : Block → List Production
told b = log_of_lines productions start_flags b.leaves

-- A block is right where these are its productions.
abbrev pub is_right : Block → Bool
is_right b = pointwise same_item b.items (told b)

-- the blocks from the first on that isn't right
abbrev pub from_wrong : List Block → List Block
from_wrong [] = []
from_wrong (b ∷ blocks) = if is_right b then from_wrong blocks else b ∷ blocks

-- How many texts and productions there are; or which block is the first that isn't right, from 1 on, and how many of
-- its productions at the beginning are right.
abbrev pub checked_by : List Block → List Block → Checked
checked_by blocks [] = Accepted (length blocks) (sum_by (λ b. length b.items) blocks)
checked_by blocks (wrong ∷ later) = Rejected (length blocks - length later) (common wrong.items (told wrong))

abbrev pub checked : List Block → Checked
checked blocks = checked_by blocks (from_wrong blocks)

-- whatever blocks these lines are
abbrev pub IsCheckedAs : List (List ℕ) → Checked → Type 0
IsCheckedAs lines c = (is : IsLog lines) → c ≡ checked is.blocks
