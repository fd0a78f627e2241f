-- The models beside `specs/Blocks`.
use Rattle.std.specs.Prelude.{◌≡◌, ℕ, ◌≤◌, List, ◌∷◌, ◌++◌, length, map, All}
use Rattle.std.specs.List.{flat_map}
use Rattle.cw_base.specs.Text.{pieces_of}
use Rattle.cw_names.specs.Names.{Entry}
use Rattle.cw_leaves.specs.declared.lines.LeafLine.{LeafLine}
use Rattle.cw_leaves.specs.declared.lines.NameList.{NameList}
use Rattle.cw_leaves.specs.LeafLines.{Line, text_at}
use Rattle.cw_leaves.specs.Spelling.{production_of, spelled}
use Rattle.cw_logs.specs.declared.blocks.ReadItems.{ReadItems}
use Rattle.cw_logs.specs.declared.blocks.ReadLeaves.{ReadLeaves}
use Rattle.cw_logs.specs.declared.reading.Spot.TheVariants.{Outside, Inside}
use Rattle.cw_logs.specs.model.LinePieces.{AreIdentifiers}
use Rattle.cw_logs.specs.LogReading.{Reads}
use Rattle.cw_logs.specs.LogText.{blank_and, end_text, item_text, line_text, IsFineItem}
use Rattle.cw_logs.specs.LogText.{IsFineLine}
use Rattle.cw_logs.specs.Blocks.{AreIdents, names_in, with_idents}

-- ## Its parts

-- Whatever identifiers the text is, each behind a blank, these are their names.
pub record HasNames (old new : List Entry) (text : List ℕ) (ids : NameList) : Type 0 where
  pub idents : AreIdents new ids
  pub added : new ≡ with_idents (map (λ id. text_at new id.index) ids) old
  pub texts : (texts : List (List ℕ)) → AreIdentifiers texts → text ≡ flat_map blank_and texts
      → map (λ id. text_at new id.index) ids ≡ texts

pub record IsLeafLine (line : List ℕ) : Type 0 where
  pub said : Line
  pub fine : IsFineLine said
  pub is : line ≡ line_text said

pub record HasLeafLine (old new : List Entry) (line : List ℕ) (leaf : LeafLine) : Type 0 where
  pub idents : AreIdents new leaf.names
  pub added : new ≡ with_idents (spelled new leaf).names old
  pub fine : IsFineLine (spelled new leaf)
  pub is : line ≡ line_text (spelled new leaf)

-- So many leaf lines stand first, and then the productions of their block.
pub record HasLeaves (old new : List Entry) (count : ℕ) (text : List ℕ) (read : ReadLeaves) : Type 0 where
  pub idents : All (λ leaf. AreIdents new leaf.names) read.leaves
  pub added : new ≡ with_idents (names_in (map (spelled new) read.leaves)) old
  pub many : length read.leaves ≡ count
  pub fine : All IsFineLine (map (spelled new) read.leaves)
  pub is : pieces_of text ≡ map line_text (map (spelled new) read.leaves) ++ pieces_of read.rest.now
  pub later : Reads (Inside 0) (pieces_of read.rest.now) Outside
  pub shorter : length read.rest.now ≤ length text

-- These productions stand first, and then the end of their block.
pub record HasItems (text : List ℕ) (read : ReadItems) : Type 0 where
  pub fine : All IsFineItem (map production_of read.items)
  pub is : pieces_of text ≡ map item_text (map production_of read.items) ++ end_text ∷ pieces_of read.rest.now
  pub later : Reads Outside (pieces_of read.rest.now) Outside
  pub shorter : length read.rest.now ≤ length text
