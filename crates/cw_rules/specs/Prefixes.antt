-- The prefixes of strings: L, u, U and u8, directly before the mark with which a string begins.
use Rattle.std.specs.Prelude.{ℕ, Bool, ◌&&◌, ◌||◌, ◌==◌, List, codes, drop, if◌then◌else◌}
use Rattle.cw_base.specs.Bytes.{byte_of}
use Rattle.cw_rules.specs.Bytes.{begins_by, begins_with, is_mark}

-- `L`, `u` or `U`
abbrev pub is_prefix_letter : ℕ → Bool
is_prefix_letter byte = byte == byte_of "L" || byte == byte_of "u" || byte == byte_of "U"

-- How many bytes the prefix has with which a string begins here, or 0 where none does.
abbrev pub prefix_size : List ℕ → ℕ
prefix_size bytes =
    if begins_by is_prefix_letter bytes && begins_by is_mark (drop 1 bytes) then 1
    else if begins_with (codes "u8") bytes && begins_by is_mark (drop 2 bytes) then 2 else 0
