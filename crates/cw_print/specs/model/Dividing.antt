-- A text that is printed byte by byte, and divided on the way.
use Rattle.std.specs.Prelude.{ℕ, ◌-◌, ◌&&◌, ◌||◌, ◌==◌, nat_lt, Bool, false, not, List, [], ◌∷◌, ◌++◌, if◌then◌else◌}
use Rattle.cw_base.specs.Bytes.{backslash}
use Rattle.cw_rules.specs.Bytes.{at_sign}
use Rattle.cw_print.specs.declared.dividing.Portion.{Portion}
use Rattle.cw_print.specs.Escaping.{escaped_byte, is_escaped}
use Rattle.cw_print.specs.Texts.{division, portion_size}

-- a portion of which so many bytes have come, and no backslash last
abbrev pub portion_behind : ℕ → Portion
portion_behind come = record { room = portion_size - come; takes_next = false }

-- A portion without room ends where no backslash takes the next byte along.
abbrev pub is_full : Portion → Bool
is_full portion = not portion.takes_next && portion.room == 0

abbrev pub has_room : Portion → Bool
has_room portion = not portion.takes_next && nat_lt 0 portion.room

-- the portion in which the next byte stands
abbrev pub portion_for_next : Portion → Portion
portion_for_next portion = if is_full portion then portion_behind 0 else portion

abbrev pub with_byte : Portion → ℕ → Portion
with_byte portion byte = record {
  room = portion.room - 1;
  takes_next = not portion.takes_next && byte == backslash;
}

-- what the next byte prints
abbrev pub next_byte : Portion → ℕ → List ℕ
next_byte portion byte = if is_full portion then division ++ escaped_byte byte else escaped_byte byte

-- what the rest of a text prints
abbrev pub rest_bytes : Portion → List ℕ → List ℕ
rest_bytes portion [] = []
rest_bytes portion (byte ∷ bytes) =
    next_byte portion byte ++ rest_bytes (with_byte (portion_for_next portion) byte) bytes

-- a byte of a string that does not print itself, or not whatever stands beside it
abbrev pub is_special_in_string : ℕ → Bool
is_special_in_string byte = is_escaped byte || byte == at_sign
