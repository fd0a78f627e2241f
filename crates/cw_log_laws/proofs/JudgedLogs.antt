-- The file of blocks that may stand in a log is found to be a log with just these blocks.
use Rattle.cw_log_laws.proofs.Terms.{◌≡◌, ℕ, suc, List, arith, All, take-append-drop, Judgement, no_log, Block}
use Rattle.cw_log_laws.proofs.Terms.{IsFineBlock, log_lines}
use Rattle.cw_logs.specs.{Judgement.log, LogLaws.BlocksAreTold}
use Rattle.cw_logs.specs.LogReading.{IsFault, IsLog, cut_off, wrong}

-- the lines of a log have no fault
no-fault : (lines : List (List ℕ)) (good : ℕ) → IsLog lines → IsFault lines good → ⊥
no-fault lines good is (wrong inside begins stuck) = grind (arith, take-append-drop (suc good) lines)
no-fault lines good is (cut_off all begins none) = none is

-- It is a log, and of these blocks.
abbrev pub IsOf : List Block → {lines : List (List ℕ)} → Judgement lines → Type 0
IsOf blocks (log is) = is.blocks ≡ blocks
IsOf blocks (no_log line fault) = ⊥

pub judged-of : BlocksAreTold → (blocks : List Block) (lines : List (List ℕ)) → All IsFineBlock blocks
    → lines ≡ log_lines blocks → (j : Judgement lines) → IsOf blocks j
judged-of told blocks lines fine is j = grind (arith, no-fault)
