-- The bytes that the items of a flat list print, each by itself, in their order; and those of the whole list.
use Rattle.std.specs.Prelude.{◌≡◌, ℕ, ◌+◌, ◌-◌, ◌&&◌, Bool, false, List, [], ◌∷◌, ◌++◌, Option, Some, None, codes}
use Rattle.std.specs.Prelude.{decimal, drop, slice_range, if◌then◌else◌}
use Rattle.std.specs.List.{flat_map}
use Rattle.std.specs.Option.{option_map_or}
use Rattle.cw_base.specs.declared.span.Span.{Span}
use Rattle.cw_base.specs.Conditions.{list_if}
use Rattle.cw_names.specs.Names.{Entry}
use Rattle.cw_rules.specs.Answers.{Answer, Seen}
use Rattle.cw_lex.specs.Lexing.{tokens_of}
use Rattle.cw_lex.specs.Limbo.{is_name_kind}
use Rattle.cw_lex.specs.Nested.{until_section}
use Rattle.cw_rules.specs.declared.tokens.Mode.TheVariants.{Inner}
use Rattle.cw_rules.specs.declared.signs.Sign.{Sign}
use Rattle.cw_trees.specs.declared.Control.{Control}
use Rattle.cw_trees.specs.declared.Control.TheVariants.{CommentEnd, NameText, NameEnd}
use Rattle.cw_trees.specs.Tree.{Tree}
use Rattle.cw_trees.specs.Flat.{Item, SourceItem, IdentItem, ReservedItem, SignItem, Open, Close, flat, trimmed_items}
use Rattle.cw_trees.specs.Printing.{Printable, sign_bytes, ident_bytes, reserved_bytes, printed}
use Rattle.cw_secnames.specs.Parts.{inner_parts}
use Rattle.cw_join.specs.Tokens.{word_at}
use Rattle.cw_print.specs.Escaping.{typewriter}
use Rattle.cw_print.specs.Comments.{closing_braces}
use Rattle.cw_print.specs.Tokens.{sign_macro}
use Rattle.cw_print.specs.Showing.{TokenShown, number_shown, innermost, others}
use Rattle.cw_print.specs.Found.{numbered}

-- ## Section names

-- a section by its number, and whether it is changed
pub record Numbered : Type 0 where
  pub number : ℕ
  pub is_changed : Bool

-- A section name as it is printed: its text, whether it is a file's, the number of its first defining section, or 0,
-- and whether that section is changed; and the later sections that define it.
pub record Title : Type 0 where
  pub text : List ℕ
  pub is_file : Bool
  pub number : ℕ
  pub is_changed : Bool
  pub later : List Numbered

-- a section number, with `\*` where its section is changed
abbrev pub changed_mark : Bool → List ℕ
changed_mark changed = list_if changed (codes "\\*")

abbrev pub section_number : ℕ → Bool → List ℕ
section_number number is_changed = decimal number ++ changed_mark is_changed

abbrev pub later_number : Numbered → List ℕ
later_number n = codes ", " ++ section_number n.number n.is_changed

-- The first section that defines a name stands before its text, and with `lists` all that do.
abbrev pub front : Bool → Title → List ℕ
front lists title =
    codes "\\X" ++ (section_number title.number title.is_changed
    ++ (list_if lists (flat_map later_number title.later) ++ codes ":"))

-- What a name prints up to an inner text or to its end, and the scanner's answers for that inner text, whose numbers
-- are places in the name's own text. A section code ends it.
pub record NamePiece : Type 0 where
  pub bytes : List ℕ
  pub answers : List Answer

abbrev pub last_piece : List ℕ → List NamePiece
last_piece bytes = record { bytes = bytes; answers = [] } ∷ []

-- the pieces of a text from a place on, in which inner texts stand at these spans, without their bars
abbrev pub pieces_between : List ℕ → ℕ → List Span → List NamePiece
pieces_between text place [] = last_piece (drop place text)
pieces_between text place (span ∷ spans) =
    record {
      bytes = slice_range text place (span.start - 1);
      answers = until_section (tokens_of text span.start span.«end» Inner);
    } ∷ pieces_between text (span.«end» + 1) spans

-- The text of a file's name has no inner texts, and is escaped.
abbrev pub name_pieces : Title → List NamePiece
name_pieces title =
    if title.is_file then last_piece (typewriter title.text) else pieces_between title.text 0 (inner_parts title.text)

-- ## Where the printing stands

-- In a section name: the answers of the inner text at hand, and the pieces that are still to come.
pub record InName : Type 0 where
  pub answers : List Answer
  pub pieces : List NamePiece

-- In a name or in none; and how many braces are open in each open comment, the innermost first.
pub record Stand : Type 0 where
  pub name : Option InName
  pub braces : List ℕ

abbrev pub outside : Stand
outside = record { name = None; braces = [] }

-- what an item prints, and where the printing stands behind it
pub record ItemPrint : Type 0 where
  pub bytes : List ℕ
  pub stand : Stand

abbrev pub shown_as : List ℕ → Stand → ItemPrint
shown_as bytes stand = record { bytes = bytes; stand = stand }

abbrev pub with_braces : List ℕ → Stand → Stand
with_braces braces stand = record { name = stand.name; braces = braces }

abbrev pub with_name : Option InName → Stand → Stand
with_name name stand = record { name = name; braces = stand.braces }

-- the next piece of a name is printed
abbrev pub next_bytes : List NamePiece → List ℕ
next_bytes [] = []
next_bytes (p ∷ pieces) = p.bytes

abbrev pub behind_next : List NamePiece → InName
behind_next [] = record { answers = []; pieces = [] }
behind_next (p ∷ pieces) = record { answers = p.answers; pieces = pieces }

abbrev pub piece_shown : List ℕ → List NamePiece → Stand → ItemPrint
piece_shown before pieces stand = shown_as (before ++ next_bytes pieces) (with_name (Some (behind_next pieces)) stand)

-- ## Comments and tokens

abbrev pub in_stand : Stand → TokenShown → ItemPrint
in_stand stand shown = shown_as shown.bytes (with_braces shown.braces stand)

abbrev pub found_shown : Bool → Option Seen → Stand → ItemPrint
found_shown first token stand = in_stand stand (number_shown first token stand.braces)

-- ## Items

-- What is fixed while one C text is printed: the scanner's answers for it, whether inner texts are wrapped, whether the
-- present section is the first that defines its name, and whether names list all sections that define them.
pub record Fixed : Type 0 where
  pub answers : List Answer
  pub wraps : Bool
  pub first : Bool
  pub lists : Bool

-- A section name prints its title, where it has one.
abbrev pub named_shown : Bool → Option Title → Stand → ItemPrint
named_shown lists None stand = shown_as [] stand
named_shown lists (Some title) stand = piece_shown (front lists title) (name_pieces title) stand

abbrev pub seen_shown : Bool → Bool → Option Title → Option Seen → Stand → ItemPrint
seen_shown first lists title token stand =
    if option_map_or (λ token. is_name_kind token.kind) token false then named_shown lists title stand
    else found_shown first token stand

-- A token prints as a sign, wherever it stands.
abbrev pub PrintsSign : Sign → Option Seen → Type 0
PrintsSign sign token =
    (first lists : Bool) (title : Option Title) (stand : Stand) → seen_shown first lists title token stand
    ≡ shown_as (sign_macro sign) stand

abbrev pub outer_shown : Fixed → Option Title → ℕ → Stand → ItemPrint
outer_shown f title number stand = seen_shown f.first f.lists title (numbered number f.answers) stand

-- A number stands for a token of the text, perhaps a section name; or, in a section name, for a token of its inner
-- text.
abbrev pub source_shown : Fixed → Option Title → Option InName → ℕ → Stand → ItemPrint
source_shown f title None number stand = outer_shown f title number stand
source_shown f title (Some name) number stand = found_shown f.first (numbered number name.answers) stand

abbrev pub control_shown : Control → Stand → ItemPrint
control_shown CommentEnd stand =
    shown_as (closing_braces (innermost stand.braces)) (with_braces (others stand.braces) stand)
control_shown NameText stand = option_map_or (λ name. piece_shown [] name.pieces stand) stand.name (shown_as [] stand)
control_shown NameEnd stand = shown_as (codes "\\X") (with_name None stand)
control_shown control stand = shown_as [] stand

-- What an item prints by where it stands, where this is the title of its number.
abbrev pub placed_shown : Fixed → Option Title → Item → Stand → ItemPrint
placed_shown f title (SourceItem number) stand = source_shown f title stand.name number stand
placed_shown f title (SignItem control) stand = control_shown control stand
placed_shown f title Open stand = shown_as (list_if f.wraps (codes "\\PB{")) stand
placed_shown f title Close stand = shown_as (list_if f.wraps (codes "}")) stand
placed_shown f title item stand = shown_as [] stand

-- What an item prints wherever it stands: names, and all other signs.
abbrev pub own_sign : Control → List ℕ
own_sign CommentEnd = []
own_sign control = sign_bytes control

abbrev pub own_bytes : List Entry → Item → List ℕ
own_bytes names (IdentItem name number) = word_at ident_bytes names name
own_bytes names (ReservedItem name number) = word_at reserved_bytes names name
own_bytes names (SignItem control) = own_sign control
own_bytes names item = []

-- What a flat list is printed from: what is fixed, the titles of section names by their numbers, and the names.
pub record PrintSource : Type 0 where
  pub fixed : Fixed
  pub titles : ℕ → Option Title
  pub names : List Entry

abbrev pub title_in : (ℕ → Option Title) → Item → Option Title
title_in titles (SourceItem number) = titles number
title_in titles item = None

abbrev pub behind_own : List ℕ → ItemPrint → ItemPrint
behind_own bytes shown = shown_as (bytes ++ shown.bytes) shown.stand

abbrev pub item_shown : PrintSource → Item → Stand → ItemPrint
item_shown s item stand = behind_own (own_bytes s.names item) (placed_shown s.fixed (title_in s.titles item) item stand)

abbrev pub shown_before : Item → ItemPrint → (Stand → List Printable) → List Printable
shown_before item shown rest = record { item = item; bytes = shown.bytes } ∷ rest shown.stand

abbrev pub items_shown : PrintSource → List Item → Stand → List Printable
items_shown s [] stand = []
items_shown s (item ∷ items) stand = shown_before item (item_shown s item stand) (items_shown s items)

-- where the printing stands behind a list
abbrev pub stand_after : PrintSource → List Item → Stand → Stand
stand_after s [] stand = stand
stand_after s (item ∷ items) stand = stand_after s items (item_shown s item stand).stand

-- ## The whole list

-- Inner C text is wrapped, also where it is the text itself.
abbrev pub wrapped : Bool → List ℕ → List ℕ
wrapped wraps bytes = list_if wraps (codes "\\PB{") ++ (bytes ++ list_if wraps (codes "}"))

-- a flat list, as the C text of a part or a definition, or as inner C text
abbrev pub tree_bytes : Bool → PrintSource → Tree → List ℕ
tree_bytes inner s tree =
    wrapped (inner && s.fixed.wraps) (printed inner (items_shown s (trimmed_items (flat tree)) outside))
