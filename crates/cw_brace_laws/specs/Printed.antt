-- Braces in flat lists and in what they print.
use Rattle.std.specs.Prelude.{◌≡◌, ℕ, zero, suc, Bool, nat_eq, Option, Some, None, List, [], ◌∷◌, map}
use Rattle.std.specs.Prelude.{if◌then◌else◌}
use Rattle.cw_base.specs.Bytes.{byte_of}
use Rattle.cw_trees.specs.Flat.{Item, SignItem, Open, Close, flat, trimmed_items}
use Rattle.cw_trees.specs.Printing.{Printable, printed, sign_bytes}
use Rattle.cw_trees.specs.Tree.{Tree}
use Rattle.cw_trees.specs.declared.Control.{Control}
use Rattle.cw_trees.specs.declared.Control.TheVariants.{CommentEnd}
use Rattle.cw_brace_laws.specs.Bracing.{leads_on, outside, sign_depth}

-- ## Items

-- Names and tokens open no brace; an inner text begins and ends outside of braces.
abbrev pub item_depth : Item → ℕ → Option ℕ
item_depth (SignItem control) depth = sign_depth control depth
item_depth Open depth = outside depth
item_depth Close depth = outside depth
item_depth item depth = Some depth

abbrev pub items_depth : List Item → ℕ → Option ℕ
items_depth [] depth = Some depth
items_depth (item ∷ items) depth = leads_on (item_depth item depth) (items_depth items)

-- the braces of the items pair, and no sign that needs text, toggle or dollar stands between them
abbrev pub AreBraced : List Item → Type 0
AreBraced items = items_depth items 0 ≡ Some 0

-- ## Bytes

abbrev pub closed : ℕ → Option ℕ
closed zero = None
closed (suc depth) = Some depth

-- how many braces of TeX are open behind a byte: `{` opens one and `}` closes one, and `$` stands outside
abbrev pub byte_depth : ℕ → ℕ → Option ℕ
byte_depth byte depth =
    if nat_eq byte (byte_of "{") then Some (suc depth) else if nat_eq byte (byte_of "}") then closed depth
    else if nat_eq byte (byte_of "$") then outside depth else Some depth

abbrev pub bytes_depth : List ℕ → ℕ → Option ℕ
bytes_depth [] depth = Some depth
bytes_depth (byte ∷ bytes) depth = leads_on (byte_depth byte depth) (bytes_depth bytes)

-- What an item prints that is a sign. The brace that ends a comment closes one of the comment's token.
abbrev pub own_sign : Control → List ℕ
own_sign CommentEnd = []
own_sign control = sign_bytes control

abbrev pub sign_alone : Item → Printable
sign_alone (SignItem control) = record { item = SignItem control; bytes = own_sign control }
sign_alone item = record { item = item; bytes = [] }

-- what is printed of signs: the text with nothing in the place of its tokens
abbrev pub signs_printed : Bool → List Item → List ℕ
signs_printed inner items = printed inner (map sign_alone items)

-- What a tree prints has braces that pair, and no `$` between them, in a part or as inner text; where that which a
-- token prints stands out.
pub record PrintsBraced (tree : Tree) : Type 0 where
  pub items : AreBraced (trimmed_items (flat tree))
  pub bytes : (inner : Bool) → bytes_depth (signs_printed inner (trimmed_items (flat tree))) 0 ≡ Some 0
