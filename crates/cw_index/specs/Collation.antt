-- The order of the entries of the index.
use Rattle.std.specs.Prelude.{ℕ, ◌+◌, ◌-◌, ◌==◌, nat_le, List, if◌then◌else◌}
use Rattle.std.specs.declared.cmp.Ordering.{Ordering}
use Rattle.std.specs.Ordering.{nat_cmp, on, then_cmp}
use Rattle.std.specs.Cmp.Lexicographic.{slice_cmp}
use Rattle.cw_base.specs.Bytes.{byte_of}
use Rattle.cw_base.specs.Text.{is_blank}
use Rattle.cw_rules.specs.Bytes.{is_between, is_digit}
use Rattle.cw_names.specs.declared.entry.EntryKind.{EntryKind}
use Rattle.cw_names.specs.declared.entry.EntryKind.TheVariants.{Ident, Roman, Typewriter, User}
use Rattle.cw_names.specs.Names.{Entry}
use Rattle.cw_index.specs.declared.collation.Class.{Class}
use Rattle.cw_index.specs.declared.collation.Class.TheVariants.{Blank, Sign, Underscore, Letter, High, Digit}

-- ## Classes of bytes

-- The class of a byte. All blanks are alike, and so are a letter and its capital.
abbrev pub class_of : ℕ → Class
class_of byte =
    if is_blank byte then Blank
    else if byte == byte_of "_" then Underscore
    else if is_between (byte_of "a") (byte_of "z") byte then Letter byte
    else if is_between (byte_of "A") (byte_of "Z") byte then Letter (byte + (byte_of "a" - byte_of "A"))
    else if is_digit byte then Digit byte
    else if nat_le 128 byte then High byte
    else Sign byte

-- the classes in their order
abbrev pub class_rank : Class → ℕ
class_rank Blank = 0
class_rank (Sign byte) = 1
class_rank Underscore = 2
class_rank (Letter byte) = 3
class_rank (High byte) = 4
class_rank (Digit byte) = 5

-- In a class bytes stand by value.
abbrev pub value : Class → ℕ
value Blank = 0
value (Sign byte) = byte
value Underscore = 0
value (Letter byte) = byte
value (High byte) = byte
value (Digit byte) = byte

abbrev pub class_cmp : Class → Class → Ordering
class_cmp = then_cmp (on class_rank nat_cmp) (on value nat_cmp)

-- ## Entries

-- by the classes of their bytes; of two texts that agree as far as the shorter one goes, the shorter comes first
abbrev pub classes_cmp : List ℕ → List ℕ → Ordering
classes_cmp = slice_cmp (on class_of class_cmp)

-- texts of the same classes by their bytes
abbrev pub text_cmp : List ℕ → List ℕ → Ordering
text_cmp = then_cmp classes_cmp (slice_cmp nat_cmp)

abbrev pub entry_kind_place : EntryKind → ℕ
entry_kind_place Ident = 0
entry_kind_place Roman = 1
entry_kind_place Typewriter = 2
entry_kind_place User = 3

-- equal texts by what the entries are
abbrev pub entry_cmp : Entry → Entry → Ordering
entry_cmp = then_cmp (on (λ e. e.text) text_cmp) (on (λ e. e.kind) (on entry_kind_place nat_cmp))
