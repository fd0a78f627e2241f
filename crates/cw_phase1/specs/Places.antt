-- The places of bytes, and the changed lines.
use Rattle.std.specs.Prelude.{ℕ, ◌+◌, ◌&&◌, ◌||◌, Bool, false, nat_lt, List, [], ◌∷◌, length, if◌then◌else◌}
use Rattle.cw_base.specs.declared.notes.Place.{Place}
use Rattle.cw_base.specs.Web.{MergedLine}

-- The place of a byte of the merged text: that of the line that has it, where a line takes up the bytes from `at` on.
abbrev pub place_from : List MergedLine → ℕ → ℕ → Place → Place
place_from [] at byte last = last
place_from (line ∷ lines) at byte last =
    if nat_lt byte (at + length line.text + 1) then line.place
    else place_from lines (at + length line.text + 1) byte line.place

abbrev pub nowhere : Place
nowhere = record { file = 0; line = 0 }

abbrev pub place_in : List MergedLine → ℕ → Place
place_in lines byte = place_from lines 0 byte nowhere

-- A line and its end take up the bytes from `at` on. A part of the text holds a changed line when it has a byte of one.
abbrev pub holds_changed : List MergedLine → ℕ → ℕ → ℕ → Bool
holds_changed [] at start end = false
holds_changed (line ∷ lines) at start end =
    (line.changed && (nat_lt at end && nat_lt start (at + length line.text + 1)))
    || holds_changed lines (at + length line.text + 1) start end
