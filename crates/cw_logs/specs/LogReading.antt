-- When a text is a log, and which of its lines is the first that no log has.
use Rattle.std.specs.Prelude.{◌≡◌, ℕ, suc, ◌+◌, ◌<◌, ◌≤◌, List, [], ◌∷◌, ◌++◌, length, take, All}
use Rattle.cw_table.specs.Normal.{Production}
use Rattle.cw_leaves.specs.LeafLines.{Line}
use Rattle.cw_logs.specs.declared.reading.Spot.{Spot}
use Rattle.cw_logs.specs.declared.reading.Spot.TheVariants.{Outside, Inside}
use Rattle.cw_logs.specs.LogText.{Block, line_text, head_text, item_text, end_text, log_lines, greatest, IsFineLine}
use Rattle.cw_logs.specs.LogText.{IsFineItem, IsFineBlock}

-- These lines are a log.
pub record IsLog (lines : List (List ℕ)) : Type 0 where
  pub blocks : List Block
  pub fine : All IsFineBlock blocks
  pub is : lines ≡ log_lines blocks

-- Some log begins with these lines.
pub record Begins (lines : List (List ℕ)) : Type 0 where
  pub later : List (List ℕ)
  pub whole : IsLog (lines ++ later)

-- The line behind so many is the first that no log has behind these: some log begins with them, and none with that line
-- too; or they are all there are, and are no log.
pub data IsFault (lines : List (List ℕ)) (good : ℕ) : Type 0 where
  wrong : good < length lines → Begins (take good lines) → (Begins (take (suc good) lines) → ⊥) → IsFault lines good
  cut_off : good ≡ length lines → Begins lines → (IsLog lines → ⊥) → IsFault lines good

-- The same by the line's number, from 1 on.
pub record IsFaultAt (lines : List (List ℕ)) (line : ℕ) : Type 0 where
  pub good : ℕ
  pub next : line ≡ good + 1
  pub fault : IsFault lines good

-- ## Reading line by line

-- Behind a line the reader stands elsewhere: the head of a block says how many leaf lines are to come, and behind these
-- come productions, and the end.
pub data Step : Spot → List ℕ → Spot → Type 0 where
  opens : (line : List ℕ) (count : ℕ) → count ≤ greatest → line ≡ head_text count → Step Outside line (Inside count)
  leaf : (line : List ℕ) (to_come : ℕ) (said : Line) → IsFineLine said → line ≡ line_text said
      → Step (Inside (suc to_come)) line (Inside to_come)
  item : (line : List ℕ) (p : Production) → IsFineItem p → line ≡ item_text p → Step (Inside 0) line (Inside 0)
  closes : (line : List ℕ) → line ≡ end_text → Step (Inside 0) line Outside

-- No log has this line here.
abbrev pub Stuck : Spot → List ℕ → Type 0
Stuck spot line = (next : Spot) → Step spot line next → ⊥

pub data Reads : Spot → List (List ℕ) → Spot → Type 0 where
  none : (spot : Spot) → Reads spot [] spot
  more : (first next last : Spot) (line : List ℕ) (lines : List (List ℕ)) → Step first line next
      → Reads next lines last → Reads first (line ∷ lines) last
