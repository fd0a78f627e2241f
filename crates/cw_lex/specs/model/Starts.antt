-- What begins at a byte of C text, and that it fits in the bytes that are left.
use Rattle.std.specs.Prelude.{◌≡◌, ℕ, ◌+◌, ◌<◌, ◌≤◌, ◌==◌, ◌&&◌, Bool, true, not, List, ◌∷◌, length, if◌then◌else◌}
use Rattle.std.specs.Option.{option_map_or}
use Rattle.cw_base.specs.Text.{bar}
use Rattle.cw_rules.specs.Bytes.{at_sign, begins, is_letter, is_mark, slash, star}
use Rattle.cw_rules.specs.Codes.{code_at}
use Rattle.cw_rules.specs.Constants.{constant}
use Rattle.cw_rules.specs.Signs.{all_signs, longest, spelling}
use Rattle.cw_rules.specs.declared.parts.Start.{Start}
use Rattle.cw_rules.specs.declared.parts.Start.TheVariants as start

-- what begins with a byte, where no prefix, identifier or constant does
abbrev pub start_by_byte : Bool → ℕ → List ℕ → Start
start_by_byte bar_ends byte bytes =
    if is_mark byte then start.Quoted byte
    else if byte == slash && begins star bytes then start.LongComment
    else if byte == slash && begins slash bytes then start.ShortComment
    else if byte == at_sign then start.Code (code_at bytes)
    else if byte == bar && (bar_ends && not (begins bar bytes)) then start.EndOfInner
    else option_map_or start.Sign (longest all_signs (byte ∷ bytes)) start.OtherByte

-- what it needs of its first byte and of those behind it
abbrev pub StartFits : Start → ℕ → List ℕ → Type 0
StartFits start.Identifier byte bytes = is_letter byte ≡ true
StartFits start.Constant byte bytes = 0 < constant (byte ∷ bytes)
StartFits start.LongComment byte bytes = 0 < length bytes
StartFits start.ShortComment byte bytes = 0 < length bytes
StartFits (start.Code code) byte bytes = code ≡ code_at bytes
StartFits (start.Sign sign) byte bytes = length (spelling sign) ≤ length bytes + 1
StartFits other byte bytes = Unit {0}
