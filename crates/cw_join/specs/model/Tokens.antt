-- The models beside `specs/Tokens`.
use Rattle.std.specs.Prelude.{◌≡◌, ℕ, ◌||◌, Bool, codes, nat_eq, true, List, [], ◌∷◌}
use Rattle.std.specs.Prelude.{None, if◌then◌else◌}
use Rattle.cw_base.specs.Bytes.{byte_of}
use Rattle.cw_names.specs.Names.{Entry}
use Rattle.cw_tokens.specs.declared.flat.FlatItem.{FlatItem}
use Rattle.cw_tokens.specs.FlatItems.{item_is}
use Rattle.cw_trees.specs.Printing.{opened, run_sign}
use Rattle.cw_join.specs.Tokens.{item_bytes}

-- a byte that has a backslash in a name
abbrev pub is_marked : ℕ → Bool
is_marked byte = nat_eq byte (byte_of "_") || nat_eq byte (byte_of "$")

-- no bytes, or bytes the first of which has one
abbrev pub BeginsMarked : List ℕ → Type 0
BeginsMarked [] = Unit {0}
BeginsMarked (byte ∷ bytes) = is_marked byte ≡ true

-- the macro of names with lower case letters, or of names without
abbrev pub font_bytes : Bool → List ℕ
font_bytes lower = if lower then codes "\\\\{" else codes "\\.{"

-- An item that is in no run prints this one byte, whatever the names are, and opens and closes nothing.
pub record PrintsByte (item : FlatItem) (byte : ℕ) : Type 0 where
  pub in_no_run : run_sign (item_is item) ≡ None
  pub bytes : (names : List Entry) → item_bytes names item [] ≡ byte ∷ []
  pub depth : (depth : ℕ) → opened depth (item_is item) ≡ depth
