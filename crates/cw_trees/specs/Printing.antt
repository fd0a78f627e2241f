-- The bytes that a flat list prints. Breaks, blanks, indents and the like that follow one another are a run,
-- and print as one; every other item prints its own bytes.
use Rattle.std.specs.Prelude.{ℕ, zero, suc, pred, max, Bool, true, false, ◌&&◌, ◌||◌, nat_eq, nat_lt, nat_le, Option}
use Rattle.std.specs.Prelude.{Some, None, if◌then◌else◌, List, [], ◌∷◌, ◌++◌, length, codes}
use Rattle.std.specs.List.{list_any}
use Rattle.cw_base.specs.Conditions.{list_if}
use Rattle.cw_base.specs.Bytes.{byte_of, backslash}
use Rattle.cw_trees.specs.declared.Control.{Control}
use Rattle.cw_trees.specs.declared.Control.TheVariants.{Blank, OptionalBreak, Break, BigBreak, Cancel, Backup, Indent}
use Rattle.cw_trees.specs.declared.Control.TheVariants.{Outdent, OptionalLineBreak0, OptionalLineBreak9, ThinSpace}
use Rattle.cw_trees.specs.declared.Control.TheVariants.{OpenBrace, CloseBrace, OpenRelation, ToMath, ToText, Dollar}
use Rattle.cw_trees.specs.declared.Control.TheVariants.{CommentEnd}
use Rattle.cw_trees.specs.Flat.{Item, SignItem, Open, Close, is_run_sign}

-- an item of a flat list, and the bytes that it prints where it is in no run
pub record Printable : Type 0 where
  pub item : Item
  pub bytes : List ℕ

-- what a control that is in no run prints
abbrev pub sign_bytes : Control → List ℕ
sign_bytes OptionalLineBreak0 = codes "\\30"
sign_bytes OptionalLineBreak9 = codes "\\39"
sign_bytes ThinSpace = codes "\\,"
sign_bytes OpenBrace = codes "{"
sign_bytes CloseBrace = codes "}"
sign_bytes OpenRelation = codes "\\MRL{"
sign_bytes ToMath = codes "${}"
sign_bytes ToText = codes "{}$"
sign_bytes Dollar = codes "$"
sign_bytes CommentEnd = codes "}"
sign_bytes _ = []

-- Names. In a name `_` and `$` have a backslash.
abbrev pub name_bytes : List ℕ → List ℕ
name_bytes [] = []
name_bytes (byte ∷ bytes) = (if nat_eq byte (byte_of "_") || nat_eq byte (byte_of "$") then backslash ∷ byte ∷ []
    else byte ∷ []) ++ name_bytes bytes

-- a lower case letter of ASCII, or a byte of 128 and above
abbrev pub is_lower : ℕ → Bool
is_lower byte = (nat_le (byte_of "a") byte && nat_le byte (byte_of "z")) || nat_le 128 byte

abbrev pub long_ident_bytes : List ℕ → List ℕ
long_ident_bytes name =
    if list_any is_lower name then codes "\\\\{" ++ name_bytes name ++ codes "}"
    else codes "\\.{" ++ name_bytes name ++ codes "}"

-- an identifier: one byte, a name with lower case letters, or a name of capitals
abbrev pub ident_bytes : List ℕ → List ℕ
ident_bytes name = if nat_eq (length name) 1 then codes "\\|" ++ name_bytes name else long_ident_bytes name

abbrev pub reserved_bytes : List ℕ → List ℕ
reserved_bytes name = codes "\\&{" ++ name_bytes name ++ codes "}"

-- Runs. The strongest of the breaks and blanks of a run is the one that it prints.
abbrev pub strength : Control → ℕ
strength BigBreak = 4
strength Break = 3
strength OptionalBreak = 2
strength Blank = 1
strength _ = 0

abbrev pub strongest : List Control → ℕ
strongest [] = 0
strongest (control ∷ run) = max (strength control) (strongest run)

abbrev pub break_bytes : ℕ → List ℕ
break_bytes zero = []
break_bytes (suc zero) = codes " "
break_bytes (suc (suc zero)) = codes "\\5"
break_bytes (suc (suc (suc zero))) = codes "\\6\n"
break_bytes (suc (suc (suc (suc _)))) = codes "\\7\n"

abbrev pub indent_bytes : Control → List ℕ
indent_bytes Indent = codes "\\1"
indent_bytes Outdent = codes "\\2"
indent_bytes _ = []

abbrev pub indents : List Control → List ℕ
indents [] = []
indents (control ∷ run) = indent_bytes control ++ indents run

abbrev pub is_cancel : Control → Bool
is_cancel Cancel = true
is_cancel _ = false

abbrev pub is_backup : Control → Bool
is_backup Backup = true
is_backup _ = false

-- a run in the C text of a part or a definition: its indents, and without a Cancel its break and its backup
abbrev pub part_run : List Control → List ℕ
part_run run = indents run ++ (if list_any is_cancel run then [] else break_bytes (strongest run)
    ++ list_if (list_any is_backup run) (codes "\\4"))

-- a run in inner C text: a blank if it has a break or blank, and no Cancel
abbrev pub run_bytes : Bool → List Control → List ℕ
run_bytes true run = if list_any is_cancel run then [] else list_if (nat_lt 0 (strongest run)) (codes " ")
run_bytes false run = part_run run

-- an item that goes into a run
abbrev pub run_sign : Item → Option Control
run_sign (SignItem control) = if is_run_sign control then Some control else None
run_sign _ = None

-- how many inner texts are open behind an item
abbrev pub opened : ℕ → Item → ℕ
opened depth Open = suc depth
opened depth Close = pred depth
opened depth _ = depth

-- The bytes of a list, where `depth` inner texts are open and the controls of `run` stand directly before it.
abbrev pub printed_from : Bool → ℕ → List Control → List Printable → List ℕ
printed_from inner depth run [] = run_bytes (inner || nat_lt 0 depth) run
printed_from inner depth run (p ∷ ps) = elim (run_sign p.item) [
  | Some control ↦ printed_from inner depth (run ++ control ∷ []) ps
  | None ↦ run_bytes (inner || nat_lt 0 depth) run ++ (p.bytes ++ printed_from inner (opened depth p.item) [] ps)
]

-- The bytes of a trimmed list, as inner C text or as that of a part or a definition: its longest runs and all
-- its other items, in order.
abbrev pub printed : Bool → List Printable → List ℕ
printed inner ps = printed_from inner 0 [] ps
