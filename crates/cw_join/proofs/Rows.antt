-- Worked rows: small lists, cut into runs and printed, early and late.
use Rattle.cw_join.proofs.Terms.{◌≡◌, ℕ, true, false, [], ◌∷◌, List, map, codes, refl, Control, Item, IdentItem}
use Rattle.cw_join.proofs.Terms.{SignItem, Open, Close, Printable, sign_bytes, ident_bytes, reserved_bytes, Run, Other}
use Rattle.cw_join.proofs.Terms.{stretches, printed_list, early, late, added, last_run, word_at}
use Rattle.cw_base.specs.declared.category.Cat.{Cat}
use Rattle.cw_base.specs.declared.category.Cat.TheVariants.{RawInt, TexLike}
use Rattle.cw_names.specs.{Names.Entry, declared.entry.EntryKind.TheVariants.Ident}
use Rattle.cw_trees.specs.declared.Control.TheVariants.{Blank, OptionalBreak, Break, BigBreak, Cancel, Backup, Wall}
use Rattle.cw_trees.specs.declared.Control.TheVariants.{Indent, Outdent, ToMath, ToText}

abbrev shown : Item → Printable
shown (SignItem control) = record { item = SignItem control; bytes = sign_bytes control }
shown (IdentItem n number) = record { item = IdentItem n number; bytes = ident_bytes (codes "x") }
shown item = record { item = item; bytes = codes "+" }

abbrev list : List Item → List Printable
list items = map shown items

abbrev x : Item
x = IdentItem 0 0

abbrev sign : Control → Item
sign control = SignItem control

-- a list is cut into its longest runs and its other items
cut_into_runs : stretches (list (x ∷ sign Blank ∷ sign Break ∷ sign Wall ∷ sign Indent ∷ []))
    ≡ Other (shown x) ∷ Run (Blank ∷ Break ∷ []) ∷ Other (shown (sign Wall)) ∷ Run (Indent ∷ []) ∷ []
cut_into_runs = refl

-- a run prints its indents at once, and its strongest break and its backup when it has ended
ended_run : (early false (list (x ∷ sign Blank ∷ sign Outdent ∷ sign Break ∷ sign Backup ∷ [])) ≡ codes "\\|x\\2")
    × (late false (list (x ∷ sign Blank ∷ sign Outdent ∷ sign Break ∷ sign Backup ∷ [])) ≡ codes "\\6\n\\4")
    × (added false (list (x ∷ sign Blank ∷ sign Outdent ∷ sign Break ∷ sign Backup ∷ [])) (shown x)
    ≡ codes "\\6\n\\4\\|x")
    × (printed_list false (list (x ∷ sign Blank ∷ sign Outdent ∷ sign Break ∷ sign Backup ∷ x ∷ []))
    ≡ codes "\\|x\\2\\6\n\\4\\|x")
ended_run = (refl, refl, refl, refl)

-- a run with a Cancel prints its indents alone
cancelled_run : printed_list false (list (x ∷ sign Break ∷ sign Indent ∷ sign Cancel ∷ sign Backup ∷ x ∷ []))
    ≡ codes "\\|x\\1\\|x"
cancelled_run = refl

-- a wall parts runs, and so does a toggle
parted_runs : (printed_list false (list (x ∷ sign Cancel ∷ sign Wall ∷ sign Break ∷ x ∷ [])) ≡ codes "\\|x\\6\n\\|x")
    × (printed_list false (list (x ∷ sign Blank ∷ sign ToMath ∷ x ∷ sign ToText ∷ sign OptionalBreak ∷ x ∷ []))
    ≡ codes "\\|x ${}\\|x{}$\\5\\|x")
parted_runs = (refl, refl)

-- in inner C text a run prints one blank at most
inner_runs : (printed_list true (list (x ∷ sign BigBreak ∷ sign Indent ∷ sign Backup ∷ x ∷ sign Outdent ∷ x ∷ []))
    ≡ codes "\\|x \\|x\\|x")
    × (printed_list false (list (x ∷ Open ∷ x ∷ sign Break ∷ x ∷ Close ∷ sign Break ∷ x ∷ []))
    ≡ codes "\\|x+\\|x \\|x+\\6\n\\|x")
inner_runs = (refl, refl)

-- an item that is in no run leaves no run
run_is_over : last_run (list (sign Break ∷ x ∷ [])) ≡ []
run_is_over = refl

-- ## Names that are macros of TeX

abbrev name_with : Cat → List ℕ → List Entry
name_with category text = record { kind = Ident; text = text; category = category } ∷ []

macros_of_names : (word_at reserved_bytes (name_with TexLike (codes "NULL")) 0 ≡ codes "\\NULL")
    × (word_at reserved_bytes (name_with TexLike (codes "x")) 0 ≡ codes "\\x")
    × (word_at reserved_bytes (name_with TexLike (codes "a_b$c")) 0 ≡ codes "\\axbXc")
macros_of_names = (refl, refl, refl)

-- whatever the item was made as
other_names : (word_at ident_bytes (name_with TexLike (codes "a_b")) 0 ≡ codes "\\axb")
    × (word_at reserved_bytes (name_with RawInt (codes "NULL")) 0 ≡ codes "\\&{NULL}")
other_names = (refl, refl)
