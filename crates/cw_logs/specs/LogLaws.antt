-- Reading line by line finds the logs, and the first line that no log has.
use Rattle.std.specs.Prelude.{◌≡◌, ℕ, ◌<◌, List, [], length, take, All, slice_index_or}
use Rattle.cw_base.specs.Text.{pieces_of}
use Rattle.cw_logs.specs.LogText.{Block, log_text, log_lines, IsFineBlock}
use Rattle.cw_logs.specs.LogReading.{IsLog, IsFault, Stuck, Reads}
use Rattle.cw_logs.specs.declared.reading.Spot.{Spot}
use Rattle.cw_logs.specs.declared.reading.Spot.TheVariants.{Outside, Inside}

-- What is read from outside back to outside is a log, and every log is read so.
abbrev pub ReadIsLog : Type 0
ReadIsLog = (lines : List (List ℕ)) → Reads Outside lines Outside → IsLog lines

abbrev pub LogIsRead : Type 0
LogIsRead = (lines : List (List ℕ)) → IsLog lines → Reads Outside lines Outside

-- Where reading can't go on, or ends inside a block, is the fault.
abbrev pub StuckIsFault : Type 0
StuckIsFault = (lines : List (List ℕ)) (good : ℕ) (spot : Spot) → good < length lines
    → Reads Outside (take good lines) spot → Stuck spot (slice_index_or lines good [])
    → IsFault lines good

abbrev pub InsideIsFault : Type 0
InsideIsFault = (lines : List (List ℕ)) (to_come : ℕ) → Reads Outside lines (Inside to_come)
    → IsFault lines (length lines)

-- The text of blocks that may stand in a log has their lines, and so is a log.
abbrev pub TextHasLines : Type 0
TextHasLines = (blocks : List Block) → All IsFineBlock blocks → pieces_of (log_text blocks) ≡ log_lines blocks

abbrev pub TextIsLog : Type 0
TextIsLog = (blocks : List Block) → All IsFineBlock blocks → IsLog (pieces_of (log_text blocks))

-- Only these blocks have these lines, and this text.
abbrev pub BlocksAreTold : Type 0
BlocksAreTold = (blocks others : List Block) → All IsFineBlock blocks → All IsFineBlock others
    → log_lines blocks ≡ log_lines others → blocks ≡ others

abbrev pub TextTellsBlocks : Type 0
TextTellsBlocks = (blocks others : List Block) → All IsFineBlock blocks → All IsFineBlock others
    → log_text blocks ≡ log_text others → blocks ≡ others
