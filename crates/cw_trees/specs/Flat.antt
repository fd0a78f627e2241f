-- A tree laid flat, and the trimming of a flat list: the breaks and blanks with which a text begins or ends
-- are taken away.
use Rattle.std.specs.Prelude.{ℕ, Bool, true, false, ◌&&◌, ◌||◌, List, [], ◌∷◌, ◌++◌, if◌then◌else◌}
use Rattle.cw_trees.specs.declared.Control.{Control}
use Rattle.cw_trees.specs.declared.Control.TheVariants.{Blank, OptionalBreak, Break, BigBreak, Cancel, Backup, Wall}
use Rattle.cw_trees.specs.declared.Control.TheVariants.{Indent, Outdent, Inserted, NameText}
use Rattle.cw_trees.specs.Tree.{Leaf, Source, Ident, Reserved, Sign, Tree, Empty, Then, Sub, Inner}

-- an item of a flat list; an inner text stands between Open and Close
pub data Item : Type 0 where
  SourceItem : (number : ℕ) → Item
  IdentItem : (name : ℕ) → (number : ℕ) → Item
  ReservedItem : (name : ℕ) → (number : ℕ) → Item
  SignItem : (control : Control) → Item
  Open : Item
  Close : Item

abbrev pub leaf_item : Leaf → Item
leaf_item (Source number mode) = SourceItem number
leaf_item (Ident name number) = IdentItem name number
leaf_item (Reserved name number cat) = ReservedItem name number
leaf_item (Sign control) = SignItem control

-- all items of a tree in order
abbrev pub flat : Tree → List Item
flat Empty = []
flat (Then leaf rest) = leaf_item leaf ∷ flat rest
flat (Sub tree rest) = flat tree ++ flat rest
flat (Inner tree rest) = Open ∷ (flat tree ++ Close ∷ flat rest)

-- the controls that make a blank or a break
abbrev pub is_break_sign : Control → Bool
is_break_sign Blank = true
is_break_sign OptionalBreak = true
is_break_sign Break = true
is_break_sign BigBreak = true
is_break_sign _ = false

-- the controls of which runs are made
abbrev pub is_run_sign : Control → Bool
is_run_sign Blank = true
is_run_sign OptionalBreak = true
is_run_sign Break = true
is_run_sign BigBreak = true
is_run_sign Cancel = true
is_run_sign Backup = true
is_run_sign Indent = true
is_run_sign Outdent = true
is_run_sign _ = false

abbrev pub is_wall_sign : Control → Bool
is_wall_sign Wall = true
is_wall_sign _ = false

abbrev pub is_inserted_sign : Control → Bool
is_inserted_sign Inserted = true
is_inserted_sign _ = false

abbrev pub sign_is : (Control → Bool) → Item → Bool
sign_is test (SignItem control) = test control
sign_is test _ = false

abbrev pub is_break : Item → Bool
is_break item = sign_is is_break_sign item

-- walls and the controls of runs; a longest sequence of these in one text is a gap
abbrev pub is_gap : Item → Bool
is_gap item = sign_is (λ control. is_run_sign control || is_wall_sign control) item

abbrev pub is_inserted : Item → Bool
is_inserted item = sign_is is_inserted_sign item

abbrev pub without_inserted : List Item → List Item
without_inserted [] = []
without_inserted (item ∷ items) =
    if is_inserted item then without_inserted items
    else item ∷ without_inserted items

-- whether the place behind an item is in a gap with which a text begins
abbrev pub begins_after : Bool → Item → Bool
begins_after begins Open = true
begins_after begins item = begins && is_gap item

-- the list without the breaks of the gaps with which its texts begin
abbrev pub trim_front : Bool → List Item → List Item
trim_front begins [] = []
trim_front begins (item ∷ items) =
    if begins && is_break item then trim_front begins items
    else item ∷ trim_front (begins_after begins item) items

-- whether only a gap stands before the end of the text
abbrev pub ends_text : List Item → Bool
ends_text [] = true
ends_text (Close ∷ items) = true
ends_text (item ∷ items) = is_gap item && ends_text items

-- the list without the breaks of the gaps with which its texts end
abbrev pub trim_back : List Item → List Item
trim_back [] = []
trim_back (item ∷ items) =
    if is_break item && ends_text items then trim_back items
    else item ∷ trim_back items

-- Marks that print nothing are left out, and then the breaks and blanks with which the text and each text
-- between brackets begins or ends.
abbrev pub trimmed_items : List Item → List Item
trimmed_items items = trim_back (trim_front true (without_inserted items))

-- the number of a leaf that has one
abbrev pub leaf_numbers : Leaf → List ℕ
leaf_numbers (Source number mode) = number ∷ []
leaf_numbers (Ident name number) = number ∷ []
leaf_numbers (Reserved name number cat) = number ∷ []
leaf_numbers (Sign control) = []

abbrev pub is_name_text : Leaf → Bool
is_name_text (Sign NameText) = true
is_name_text _ = false

-- whether a tree goes on with the text of a section name, so that the inner text before it belongs to the name
abbrev pub continues_name : Tree → Bool
continues_name (Then leaf rest) = is_name_text leaf
continues_name _ = false

-- the numbers of the source tokens of a tree in order, without those inside section names
abbrev pub struck : Tree → List ℕ
struck Empty = []
struck (Then leaf rest) = leaf_numbers leaf ++ struck rest
struck (Sub tree rest) = struck tree ++ struck rest
struck (Inner tree rest) = if continues_name rest then struck rest else struck tree ++ struck rest
