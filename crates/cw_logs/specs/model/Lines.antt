-- What a line of a log is.
use Rattle.std.specs.Prelude.{◌≡◌, ◌≢◌, ℕ, ◌≤◌, List}
use Rattle.std.specs.List.{flat_map}
use Rattle.cw_table.specs.Normal.{Production}
use Rattle.cw_leaves.specs.declared.lines.LogItem.{LogItem}
use Rattle.cw_leaves.specs.LeafLines.{Line}
use Rattle.cw_leaves.specs.Spelling.{production_of}
use Rattle.cw_logs.specs.declared.leaves.LeafText.{LeafText}
use Rattle.cw_logs.specs.LogText.{blank_and, line_text, head_text, item_text, greatest, IsFineLine, IsFineItem}

-- It is the leaf line of these names.
abbrev pub with_names : LeafText → List (List ℕ) → Line
with_names leaf names = record { kind = leaf.kind; cat = leaf.cat; names = names }

pub record HasLeaf (line : List ℕ) (leaf : LeafText) : Type 0 where
  pub names : List (List ℕ)
  pub fine : IsFineLine (with_names leaf names)
  pub is : line ≡ line_text (with_names leaf names)
  pub behind : leaf.names.now ≡ flat_map blank_and names

abbrev pub NoLeaf : List ℕ → Type 0
NoLeaf line = (said : Line) → IsFineLine said → line ≢ line_text said

-- It is the head of a block of so many leaf lines.
pub record HasHead (line : List ℕ) (count : ℕ) : Type 0 where
  pub few : count ≤ greatest
  pub is : line ≡ head_text count

abbrev pub NoHead : List ℕ → Type 0
NoHead line = (count : ℕ) → count ≤ greatest → line ≢ head_text count

-- It is this production.
pub record HasItem (line : List ℕ) (item : LogItem) : Type 0 where
  pub fine : IsFineItem (production_of item)
  pub is : line ≡ item_text (production_of item)

abbrev pub NoItem : List ℕ → Type 0
NoItem line = (production : Production) → IsFineItem production → line ≢ item_text production
