-- The models beside `specs/Marks`.
use Rattle.std.specs.Prelude.{◌≡◌, ℕ, zero, suc, ◌+◌, ◌*◌, ◌/◌, ◌^◌, ◌%◌, ◌≤◌, Bool, true, ◌&&◌, ◌||◌, ◌==◌}
use Rattle.std.specs.Prelude.{if◌then◌else◌}
use Rattle.std.specs.Prelude.{nat_lt, List, [], ◌∷◌, ◌++◌, length, take, Option, Some, None, slice_get, slice_index_or}
use Rattle.std.specs.Prelude.{if◌then◌else◌}
use Rattle.std.specs.List.{flat_map}
use Rattle.cw_secnames.specs.declared.kinds.SecKind.{SecKind}
use Rattle.cw_secnames.specs.declared.kinds.SecKind.TheVariants.{Named, File}
use Rattle.cw_secnames.specs.declared.marks.Marks.{Marks}
use Rattle.cw_secnames.specs.declared.tables.Link.{Link}
use Rattle.cw_secnames.specs.declared.tables.Table.{Table}
use Rattle.cw_secnames.specs.declared.tables.Tables.{Tables}
use Rattle.cw_secnames.specs.Kept.{SecName, same_name_kind, is_beginning_of}
use Rattle.cw_secnames.specs.Marks.{is_one_of}

-- The mark of a kind alone, and the mark of a text with a byte more.
abbrev pub first_mark : SecKind → ℕ
first_mark Named = 0
first_mark File = 1

unfoldable pub next_mark : ℕ → ℕ → ℕ
next_mark mark byte = (((mark + (byte + 1)) % 2 ^ 32) * 2654435769) % 2 ^ 32

abbrev pub mark_from : ℕ → List ℕ → ℕ
mark_from mark [] = mark
mark_from mark (byte ∷ text) = mark_from (next_mark mark byte) text

abbrev pub mark_of : SecKind → List ℕ → ℕ
mark_of kind text = mark_from (first_mark kind) text

-- The lengths at which the marks of what a text begins with are kept: each fourth one below 16, each second one below
-- 256, and each 256th one.
abbrev pub step_at : ℕ → ℕ
step_at count = if nat_lt count 16 then 4 else if nat_lt count 256 then 2 else 256

unfoldable pub is_kept_length : ℕ → Bool
is_kept_length count = count % step_at count == 0

-- The last kept mark, after the mark of so many bytes.
abbrev pub last_kept : ℕ → ℕ → ℕ → ℕ
last_kept count mark start = if is_kept_length count then mark else start

-- Where a mark stands in a table: half of it tells the row among so many, and the links of a row have the other half.
abbrev pub row_of : ℕ → ℕ → ℕ
row_of mark rows = (mark / 65536) % rows

abbrev pub sign_of : ℕ → ℕ
sign_of mark = mark % 65536

-- the place of the last link of a mark's row, where there is a row
abbrev pub last_place : ℕ → Table → ℕ
last_place mark table = slice_index_or table.rows.items (row_of mark (length table.rows.items)) 65535

-- the positions of the links with a sign, from one place on back through its row, of so many links at most
abbrev pub with_sign : Bool → ℕ → List ℕ → List ℕ
with_sign sign position before = if sign then position ∷ before else before

abbrev pub at_link : ℕ → (ℕ → List ℕ) → Option Link → List ℕ
at_link sign before None = []
at_link sign before (Some link) = with_sign (link.sign == sign) link.position (before link.before)

abbrev pub back_from : List Link → ℕ → ℕ → ℕ → List ℕ
back_from links zero sign place = []
back_from links (suc count) sign place = at_link sign (back_from links count sign) (slice_get links place)

-- the positions under a mark in a table
abbrev pub positions_in : ℕ → Table → List ℕ
positions_in mark table = back_from table.links.items (length table.links.items) (sign_of mark) (last_place mark table)

-- and in all tables
abbrev pub positions_at : ℕ → Tables → List ℕ
positions_at mark tables = flat_map (positions_in mark) tables.full.items ++ positions_in mark tables.latest

abbrev pub HasIn : Table → ℕ → ℕ → Type 0
HasIn table mark k = is_one_of k (positions_in mark table) ≡ true

abbrev pub HasAllIn : Table → Table → Type 0
HasAllIn table more = (mark k : ℕ) → HasIn table mark k → HasIn more mark k

abbrev pub Has : Tables → ℕ → ℕ → Type 0
Has tables mark k = is_one_of k (positions_at mark tables) ≡ true

-- the second tables have what the first have
abbrev pub HasAll : Tables → Tables → Type 0
HasAll tables more = (mark k : ℕ) → Has tables mark k → Has more mark k

-- those of whole texts of so many bytes, where some name is as short
abbrev pub wholes_at : Marks → ℕ → ℕ → List ℕ
wholes_at marks count mark = if nat_lt count marks.shortest then [] else positions_at mark marks.wholes

-- A name of this kind and text is found by its marks.
pub record IsMarked (marks : Marks) (kind : SecKind) (text : List ℕ) (k : ℕ) : Type 0 where
  pub long : marks.shortest ≤ length text
  pub whole : Has marks.wholes (mark_of kind text) k
  pub starts : (count : ℕ) → count ≤ length text → is_kept_length count ≡ true
      → Has marks.starts (mark_of kind (take count text)) k

abbrev pub KeepsMarks : Marks → Marks → Type 0
KeepsMarks marks more = (kind : SecKind) (text : List ℕ) (k : ℕ) → IsMarked marks kind text k
    → IsMarked more kind text k

-- all names from a position on
abbrev pub AreMarked : Marks → ℕ → List SecName → Type 0
AreMarked marks k [] = Unit {0}
AreMarked marks k (n ∷ names) = IsMarked marks n.kind n.text k × AreMarked marks (k + 1) names

-- A text is near another where one of them begins the other.
abbrev pub is_near : SecKind → List ℕ → SecName → Bool
is_near kind text n = same_name_kind kind n.kind && (is_beginning_of n.text text || is_beginning_of text n.text)

abbrev pub IsNear : List ℕ → List ℕ → Type 0
IsNear other text = (is_beginning_of other text || is_beginning_of text other) ≡ true

-- The positions hold those of all names near a text.
abbrev pub HoldNear : List ℕ → SecKind → List ℕ → ℕ → List SecName → Type 0
HoldNear positions kind text k [] = Unit {0}
HoldNear positions kind text k (n ∷ names) = (is_near kind text n ≡ true → is_one_of k positions ≡ true)
    × HoldNear positions kind text (k + 1) names
