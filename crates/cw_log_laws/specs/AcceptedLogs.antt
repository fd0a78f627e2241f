-- What `check` finds of a file of right blocks.
use Rattle.std.specs.Prelude.{◌≡◌, ◌≤◌, List, length, All}
use Rattle.std.specs.List.{sum_by}
use Rattle.cw_base.specs.Flags.{start_flags}
use Rattle.cw_base.specs.declared.exit.Exit.TheVariants.{Clean}
use Rattle.cw_logs.specs.LogText.{Block, log_text}
use Rattle.cw_run.specs.Emits.{Run}
use Rattle.cw_run.specs.Saying.{says}
use Rattle.cw_log.specs.Check.{accepted_text, check_bytes}
use Rattle.cw_log.specs.declared.file.TheConstants.{LOG_LIMIT}
use Rattle.cw_log_laws.specs.LoggedTexts.{IsRightBlock}

-- The line `accepted:` is printed, with the number of the blocks and the sum of their productions, and nothing else.
abbrev pub accepted_run : List Block → Run
accepted_run blocks = record {
  rest = says (accepted_text (length blocks) (sum_by (λ b. length b.items) blocks));
  exit = Clean;
}

-- A file of right blocks is accepted, if it isn't too long.
abbrev pub RightBlocksAreAccepted : Type 0
RightBlocksAreAccepted = (blocks : List Block) → All (IsRightBlock start_flags) blocks
    → length (log_text blocks) ≤ LOG_LIMIT → check_bytes (log_text blocks) ≡ accepted_run blocks
