-- The tokens of a new list: those of its pieces, with the toggles that they need between them.
use Rattle.std.specs.Prelude.{◌≡◌, ℕ, ◌+◌, ◌-◌, ◌<◌, ◌≤◌, List, [], ◌∷◌, ◌++◌, length, map, slice_index_or, option_map}
use Rattle.cw_base.specs.declared.category.Cat.{Cat}
use Rattle.cw_base.specs.declared.mode.MathMode.{MathMode}
use Rattle.cw_base.specs.declared.mode.MathMode.TheVariants.{Text, Math, Maybe}
use Rattle.cw_trees.specs.declared.Control.TheVariants as control
use Rattle.cw_trees.specs.Joining.{after, first_mode}
use Rattle.cw_table.specs.declared.types.Insertion.{Insertion}
use Rattle.cw_table.specs.declared.types.Insertion.TheVariants as insertion
use Rattle.cw_table.specs.declared.types.Piece.{Piece}
use Rattle.cw_table.specs.declared.types.Piece.TheVariants as piece
use Rattle.cw_table.specs.Insertions.{insertion_of}
use Rattle.cw_table.specs.Sound.{scraps_in, numbers_from}
use Rattle.cw_tokens.specs.declared.token.Token.{Token}
use Rattle.cw_tokens.specs.declared.token.Token.TheVariants.{Control as ControlOf, «List» as ListOf}
use Rattle.cw_tokens.specs.Stored.{StoredLists}
use Rattle.cw_scraps.specs.declared.line.LineEntry.{LineEntry}
use Rattle.cw_scraps.specs.declared.pieces.Insert.{Insert}
use Rattle.cw_scraps.specs.Lines.{no_entry}

abbrev pub entry_cats : List LineEntry → List Cat
entry_cats entries = map (λ entry. entry.cat) entries

abbrev pub entry_insert : LineEntry → Insert
entry_insert entry = record { token = ListOf entry.list; left = entry.left; right = entry.right }

-- a token with these modes, or in another mode where it could be in either
abbrev pub insert_in : MathMode → Token → MathMode → MathMode → Insert
insert_in mode token Maybe Maybe = record { token = token; left = mode; right = mode }
insert_in mode token left right = record { token = token; left = left; right = right }

-- what an insertion puts into the list, where these entries stand from the row's place on
abbrev pub inserted_by : List LineEntry → Insertion → Insert
inserted_by entries (insertion.Sign sign mode) = record { token = ControlOf sign; left = mode; right = mode }
inserted_by entries (insertion.Scrap k mode) = insert_in mode (ListOf (slice_index_or entries k no_entry).list)
    (slice_index_or entries k no_entry).left (slice_index_or entries k no_entry).right

-- what a piece puts into it
abbrev pub inserting : List LineEntry → Piece → Insert
inserting entries (piece.Scrap k) = entry_insert (slice_index_or entries k no_entry)
inserting entries other = inserted_by entries (insertion_of other)

-- a scrap among the insertions, or among the pieces, is one of the line
abbrev pub IsInsertionWithin : ℕ → ℕ → Insertion → Type 0
IsInsertionWithin place count (insertion.Scrap k mode) = place + k < count
IsInsertionWithin place count (insertion.Sign sign mode) = Unit {0}

abbrev pub IsPieceWithin : ℕ → ℕ → Piece → Type 0
IsPieceWithin place count (piece.Scrap k) = place + k < count
IsPieceWithin place count (piece.MathScrap k) = place + k < count
IsPieceWithin place count _ = Unit {0}

abbrev pub toggle : MathMode → MathMode → List Token
toggle Math Text = ControlOf control.ToText ∷ []
toggle Text Math = ControlOf control.ToMath ∷ []
toggle _ _ = []

-- a store after the toggle between two modes
abbrev pub toggled : MathMode → MathMode → StoredLists → StoredLists
toggled mode left s = record {
  lists = s.lists;
  building = option_map (λ tokens. tokens ++ toggle mode left) s.building;
  spare = s.spare - length (toggle mode left);
}

abbrev pub tokens_of : MathMode → List Insert → List Token
tokens_of mode [] = []
tokens_of mode (i ∷ is) = toggle mode i.left ++ i.token ∷ tokens_of (after mode i.left i.right) is

abbrev pub left_of : List Insert → MathMode
left_of [] = Maybe
left_of (i ∷ is) = first_mode i.left (left_of is)

abbrev pub right_after : MathMode → List Insert → MathMode
right_after mode [] = mode
right_after mode (i ∷ is) = right_after (after mode i.left i.right) is

-- the scraps among the pieces are consecutive, each once, and of the line
pub record IsRun (pieces : List Piece) (count : ℕ) : Type 0 where
  pub first : ℕ
  pub more : ℕ
  pub run : scraps_in pieces ≡ numbers_from first more
  pub within : first + more ≤ count
