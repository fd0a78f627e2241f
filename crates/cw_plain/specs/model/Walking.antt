-- Plain text made item by item: where the walk stands, and what is still to come.
use Rattle.std.specs.Prelude.{◌≡◌, ℕ, zero, suc, List, [], ◌∷◌, ◌++◌}
use Rattle.cw_rules.specs.Answers.{Answer}
use Rattle.cw_secnames.specs.Kept.{SecName}
use Rattle.cw_secnames.specs.Uses.{NameUse}
use Rattle.cw_trees.specs.Flat.{Item}
use Rattle.cw_plain.specs.model.Laying.{Laying, begun, ended_text, piece_text, with_piece}
use Rattle.cw_plain.specs.Pieces.{PlacedPiece, PlainSource, Stand, item_placed, outside, passed}
use Rattle.cw_plain.specs.Titles.{source_by}

-- in section names and comments, and in the layout
pub record Walk : Type 0 where
  pub stand : Stand
  pub laying : Laying

abbrev pub walk_begun : Walk
walk_begun = record { stand = outside; laying = begun }

-- a piece is laid
abbrev pub with_placed : Laying → PlacedPiece → Walk
with_placed l p = record { stand = p.stand; laying = with_piece l p.piece }

-- An item makes a piece; in a section name, of this depth, it is passed.
abbrev pub text_at : ℕ → PlainSource → Walk → Item → List ℕ
text_at zero s w item = piece_text w.laying (item_placed s item w.stand).piece
text_at (suc depth) s w item = []

abbrev pub behind_at : ℕ → PlainSource → Walk → Item → Walk
behind_at zero s w item = with_placed w.laying (item_placed s item w.stand)
behind_at (suc depth) s w item = record { stand = passed item w.stand; laying = w.laying }

abbrev pub item_text : PlainSource → Walk → Item → List ℕ
item_text s w item = text_at w.stand.name s w item

abbrev pub behind_item : PlainSource → Walk → Item → Walk
behind_item s w item = behind_at w.stand.name s w item

-- The text of these items, and of the run that has not ended before them.
abbrev pub items_text : PlainSource → Walk → List Item → List ℕ
items_text s w [] = ended_text w.laying
items_text s w (item ∷ items) = item_text s w item ++ items_text s (behind_item s w item) items

-- What a walk reads: the scanner's answers, the section names that are kept, and where they stand.
pub record Reads : Type 0 where
  pub answers : List Answer
  pub kept : List SecName
  pub uses : List NameUse

abbrev pub source_of : Reads → PlainSource
source_of r = source_by r.answers r.kept r.uses

-- What is seen of a walk in a program.
pub record Walked : Type 0 where
  pub reads : Reads
  pub walk : Walk

-- The text of something was made: it stands behind what was there, and the walk stands there.
pub record Makes (old : Walked) (made : List ℕ) (behind : Walk) (out : List ℕ) (new : Walked) (out' : List ℕ)
    : Type 0 where
  pub text : out' ≡ out ++ made
  pub walk : new.walk ≡ behind
  pub reads : new.reads ≡ old.reads

-- that of an item
abbrev pub MakesItem : Walked → Item → List ℕ → Walked → List ℕ → Type 0
MakesItem old item out new out' =
    Makes old (item_text (source_of old.reads) old.walk item) (behind_item (source_of old.reads) old.walk item) out new
    out'

-- that of a piece outside section names
abbrev pub MakesPlaced : Walked → PlacedPiece → List ℕ → Walked → List ℕ → Type 0
MakesPlaced old placed out new out' =
    Makes old (piece_text old.walk.laying placed.piece) (with_placed old.walk.laying placed) out new out'
