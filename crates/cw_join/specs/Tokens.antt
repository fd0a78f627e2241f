-- What an item prints where it is in no run.
use Rattle.std.specs.Prelude.{◌≡◌, ℕ, ◌<◌, Bool, nat_eq, true, false, List, [], ◌∷◌, map, option_map}
use Rattle.std.specs.Prelude.{slice_get, unwrap_or, if◌then◌else◌}
use Rattle.cw_base.specs.Bytes.{byte_of, backslash}
use Rattle.cw_base.specs.declared.category.Cat.{Cat}
use Rattle.cw_base.specs.declared.category.Cat.TheVariants.{Exp, TexLike}
use Rattle.cw_names.specs.Names.{Entry}
use Rattle.cw_tokens.specs.declared.flat.FlatItem.{FlatItem}
use Rattle.cw_tokens.specs.declared.flat.FlatItem.TheVariants.{Source, Ident, Reserved, Control, Open, Close}
use Rattle.cw_tokens.specs.FlatItems.{item_is}
use Rattle.cw_trees.specs.declared.Control.{Control as Sign}
use Rattle.cw_trees.specs.declared.Control.TheVariants.{CommentEnd, NameText, NameEnd}
use Rattle.cw_trees.specs.Flat.{is_inserted_sign}
use Rattle.cw_trees.specs.Printing.{Printable, ident_bytes, reserved_bytes, sign_bytes}
use Rattle.cw_join.specs.declared.token.FlatToken.{FlatToken}

-- the text of a name
abbrev pub text_at : List Entry → ℕ → List ℕ
text_at names name = unwrap_or (option_map (λ entry. entry.text) (slice_get names name)) []

-- The category of a name. A macro of TeX has its own.
abbrev pub category_at : List Entry → ℕ → Cat
category_at names name = unwrap_or (option_map (λ entry. entry.category) (slice_get names name)) Exp

abbrev pub is_tex_like : Cat → Bool
is_tex_like TexLike = true
is_tex_like category = false

-- A macro prints a backslash and its name, in which `x` stands for `_` and `X` for `$`.
abbrev pub macro_letter : ℕ → ℕ
macro_letter byte =
    if nat_eq byte (byte_of "_") then byte_of "x" else if nat_eq byte (byte_of "$") then byte_of "X" else byte

abbrev pub macro_bytes : List ℕ → List ℕ
macro_bytes name = backslash ∷ map macro_letter name

-- What a name prints: a macro, or else what its text prints as an identifier or as a reserved word.
abbrev pub word_at : (List ℕ → List ℕ) → List Entry → ℕ → List ℕ
word_at plain names name =
    if is_tex_like (category_at names name) then macro_bytes (text_at names name) else plain (text_at names name)

-- The end of a comment and the two controls of a section name print what is given; other signs have bytes of their own.
abbrev pub control_bytes : Sign → List ℕ → List ℕ
control_bytes CommentEnd given = given
control_bytes NameText given = given
control_bytes NameEnd given = given
control_bytes control given = sign_bytes control

abbrev pub item_bytes : List Entry → FlatItem → List ℕ → List ℕ
item_bytes names (Ident name number) given = word_at ident_bytes names name.index
item_bytes names (Reserved name number) given = word_at reserved_bytes names name.index
item_bytes names (Control control) given = control_bytes control given
item_bytes names (Source number) given = given
item_bytes names Open given = given
item_bytes names Close given = given

-- a token as an item that is printed
abbrev pub printable : List Entry → FlatToken → Printable
printable names token = record { item = item_is token.item; bytes = item_bytes names token.item token.bytes.now }

-- an item for which no bytes are given
abbrev pub alone : List Entry → FlatItem → Printable
alone names item = record { item = item_is item; bytes = item_bytes names item [] }

-- a name is one of so many
abbrev pub IsNamed : ℕ → FlatItem → Type 0
IsNamed names (Ident name number) = name.index < names
IsNamed names (Reserved name number) = name.index < names
IsNamed names _ = Unit {0}

-- an inner text opens where the number of open ones has room, and one that closes is open
abbrev pub HasRoom : ℕ → FlatItem → Type 0
HasRoom depth Open = depth < 18446744073709551615
HasRoom depth Close = 0 < depth
HasRoom depth _ = Unit {0}

abbrev pub is_inserted : FlatItem → Bool
is_inserted (Control control) = is_inserted_sign control
is_inserted _ = false

-- What may come where so many inner texts are open. Marks that print nothing do not come.
pub record CanCome (names depth : ℕ) (item : FlatItem) : Type 0 where
  pub named : IsNamed names item
  pub room : HasRoom depth item
  pub prints : is_inserted item ≡ false
