-- The parts of a name's text that stand between bars: its inner texts.
use Rattle.std.specs.Prelude.{ℕ, zero, suc, ◌+◌, Bool, true, false, ◌==◌, List, [], ◌∷◌, Option, Some}
use Rattle.std.specs.Prelude.{None, option_map, if◌then◌else◌}
use Rattle.cw_base.specs.declared.span.Span.{Span}
use Rattle.cw_base.specs.Text.{bar}

abbrev pub begins_with_bar : List ℕ → Bool
begins_with_bar [] = false
begins_with_bar (byte ∷ bytes) = byte == bar

-- How many bytes stand before the bar that ends a part. Two bars together are an operator in it.
abbrev pub one_more : Option ℕ → Option ℕ
one_more size = option_map (λ n. n + 1) size

abbrev pub size_to_bar : Bool → List ℕ → Option ℕ
size_to_bar second [] = None
size_to_bar true (byte ∷ bytes) = one_more (size_to_bar false bytes)
size_to_bar false (byte ∷ bytes) =
    if byte == bar then (if begins_with_bar bytes then one_more (size_to_bar true bytes) else Some 0)
    else one_more (size_to_bar false bytes)

-- The spans of the parts, without their bars, where the first bytes belong to the part before. A bar opens a part; one
-- that no bar answers is a byte, and so is all behind it.
abbrev pub part_here : Option ℕ → ℕ → (ℕ → List Span) → List Span
part_here None place rest = []
part_here (Some size) place rest = record { start = place; «end» = place + size } ∷ rest (size + 1)

abbrev pub parts_from : List ℕ → ℕ → ℕ → List Span
parts_from [] place taken = []
parts_from (byte ∷ bytes) place (suc taken) = parts_from bytes (place + 1) taken
parts_from (byte ∷ bytes) place zero =
    if byte == bar then part_here (size_to_bar false bytes) (place + 1) (parts_from bytes (place + 1)) else parts_from
    bytes (place + 1) 0

abbrev pub inner_parts : List ℕ → List Span
inner_parts text = parts_from text 0 0
