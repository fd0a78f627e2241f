-- What the items of a flat list are to plain text.
use Rattle.std.specs.Prelude.{ℕ, zero, suc, Bool, true, false, List, [], ◌∷◌, ◌++◌, Option, Some, None, codes, drop}
use Rattle.std.specs.Prelude.{if◌then◌else◌}
use Rattle.cw_rules.specs.Answers.{Answer, Seen}
use Rattle.cw_rules.specs.declared.codes.Code.{Code}
use Rattle.cw_rules.specs.declared.codes.Code.TheVariants as code
use Rattle.cw_rules.specs.declared.tokens.TokKind.{TokKind}
use Rattle.cw_rules.specs.declared.tokens.TokKind.TheVariants as kind
use Rattle.cw_trees.specs.declared.Control.{Control}
use Rattle.cw_trees.specs.declared.Control.TheVariants.{CommentEnd, NameEnd}
use Rattle.cw_trees.specs.Flat.{Item, SourceItem, IdentItem, ReservedItem, SignItem, Open, Close, is_run_sign}
use Rattle.cw_print.specs.Found.{numbered}
use Rattle.cw_rules.specs.ControlTexts.{text_behind_code}

-- What is laid out. Words and parts are bytes of the token of a number; all else is added to them.
pub data Piece : Type 0 where
  Word : (number : ℕ) → (bytes : List ℕ) → Piece  -- a blank may part it from the word before
  Part : (number : ℕ) → (bytes : List ℕ) → Piece  -- directly behind what stands before it
  Ending : (bytes : List ℕ) → Piece  -- the end of a comment
  Opening : Piece  -- the bar before an inner text of a comment
  Closing : Piece  -- the bar behind it
  Move : (control : Control) → Piece  -- a control of a run
  Nothing : Piece  -- an item that prints nothing, and ends a run

-- What plain text is made from: the scanner's answers for the text, and the texts of the section names by their
-- numbers.
pub record PlainSource : Type 0 where
  pub answers : List Answer
  pub titles : ℕ → Option (List ℕ)

-- Where it stands: how deep in a section name (0 outside, 1 in one, and 1 more for each inner text there); and of each
-- open comment whether it is long, the innermost first.
pub record Stand : Type 0 where
  pub name : ℕ
  pub comments : List Bool

abbrev pub outside : Stand
outside = record { name = 0; comments = [] }

-- An item makes a piece, or none inside a section name, and leads to another place.
pub record PlacedPiece : Type 0 where
  pub piece : Piece
  pub stand : Stand

abbrev pub placed : Piece → Stand → PlacedPiece
placed piece stand = record { piece = piece; stand = stand }

abbrev pub in_comment : Bool → Stand → Stand
in_comment long stand = record stand { comments = long ∷ stand.comments }

abbrev pub behind_comment : Stand → Stand
behind_comment stand = record stand { comments = drop 1 stand.comments }

abbrev pub in_name : Stand → Stand
in_name stand = record stand { name = 1 }

-- ## Tokens

-- A code prints nothing, but for a text that is copied and for a string.
abbrev pub code_text : Code → List ℕ → List ℕ
code_text code.Verbatim text = text_behind_code text
code_text code.Quote text = text
code_text _ text = []

-- A section name that has a title prints it in angles, and nothing else of its leaf.
abbrev pub name_placed : ℕ → Option (List ℕ) → Stand → PlacedPiece
name_placed number None stand = placed (Word number []) stand
name_placed number (Some text) stand = placed (Word number (codes "<" ++ text ++ codes ">")) (in_name stand)

abbrev pub token_placed : ℕ → Option (List ℕ) → TokKind → List ℕ → Stand → PlacedPiece
token_placed number title kind.LongComment text stand = placed (Word number (codes "/*")) (in_comment true stand)
token_placed number title kind.ShortComment text stand = placed (Word number (codes "//")) (in_comment false stand)
token_placed number title kind.Text text stand = placed (Part number text) stand
token_placed number title kind.HeadSign text stand = placed (Part number (codes "=")) stand
token_placed number title (kind.Code code.SectionName) text stand = name_placed number title stand
token_placed number title (kind.Code code.FileName) text stand = name_placed number title stand
token_placed number title (kind.Code c) text stand = placed (Word number (code_text c text)) stand
token_placed number title k text stand = placed (Word number text) stand

-- A number without a token prints nothing.
abbrev pub found_placed : ℕ → Option (List ℕ) → Option Seen → Stand → PlacedPiece
found_placed number title None stand = placed (Word number []) stand
found_placed number title (Some token) stand = token_placed number title token.kind token.text stand

abbrev pub number_placed : PlainSource → ℕ → Stand → PlacedPiece
number_placed s number stand = found_placed number (s.titles number) (numbered number s.answers) stand

-- ## Items

abbrev pub comment_end : List Bool → List ℕ
comment_end (true ∷ outer) = codes "*/"
comment_end _ = []

abbrev pub run_or_nothing : Bool → Control → Piece
run_or_nothing is_run control = if is_run then Move control else Nothing

abbrev pub control_placed : Control → Stand → PlacedPiece
control_placed CommentEnd stand = placed (Ending (comment_end stand.comments)) (behind_comment stand)
control_placed control stand = placed (run_or_nothing (is_run_sign control) control) stand

abbrev pub item_placed : PlainSource → Item → Stand → PlacedPiece
item_placed s (SourceItem number) stand = number_placed s number stand
item_placed s (IdentItem name number) stand = number_placed s number stand
item_placed s (ReservedItem name number) stand = number_placed s number stand
item_placed s (SignItem control) stand = control_placed control stand
item_placed s Open stand = placed Opening stand
item_placed s Close stand = placed Closing stand

-- how deep in a name the place behind an item of the name's leaf is
abbrev pub name_behind : ℕ → Item → ℕ
name_behind (suc zero) (SignItem NameEnd) = 0
name_behind depth Open = suc depth
name_behind (suc depth) Close = depth
name_behind depth item = depth

abbrev pub passed : Item → Stand → Stand
passed item stand = record stand { name = name_behind stand.name item }

abbrev pub before : PlacedPiece → (Stand → List Piece) → List Piece
before p rest = p.piece ∷ rest p.stand

-- The pieces of a flat list from a place on. What stands in a section name makes none.
abbrev pub pieces_in : PlainSource → ℕ → Item → Stand → (Stand → List Piece) → List Piece
pieces_in s zero item stand rest = before (item_placed s item stand) rest
pieces_in s (suc depth) item stand rest = rest (passed item stand)

abbrev pub pieces_from : PlainSource → List Item → Stand → List Piece
pieces_from s [] stand = []
pieces_from s (item ∷ items) stand = pieces_in s stand.name item stand (pieces_from s items)

abbrev pub pieces : PlainSource → List Item → List Piece
pieces s items = pieces_from s items outside
