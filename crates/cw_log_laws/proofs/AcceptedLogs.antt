-- A file of right blocks is accepted.
use Rattle.cw_log_laws.proofs.Terms.{◌≡◌, ℕ, true, List, [], ◌∷◌, length, refl, ap, ◌∙◌, eq-eqb, if◌then◌else◌, arith}
use Rattle.cw_log_laws.proofs.Terms.{pointwise, All, le-leb, All-head, All-tail, All-weaker, both, start_flags}
use Rattle.cw_log_laws.proofs.Terms.{pieces_of, Production, Judgement, Block, IsFineBlock, log_text, judged, run_of}
use Rattle.cw_log_laws.proofs.Terms.{too_long_text, IsRightBlock}
use Rattle.cw_logs.specs.Judging.{same_item}
use Rattle.cw_logs.proofs.{Cutting.text-has-lines, Deciding.judgement, Telling.blocks-are-told}
use Rattle.cw_run.specs.Tool.{refused}
use Rattle.cw_log.specs.Checking.{checked, checked_by, from_wrong, is_right, told}
use Rattle.cw_log.specs.declared.file.TheConstants.{LOG_LIMIT}
use Rattle.cw_log_laws.specs.AcceptedLogs.{RightBlocksAreAccepted}
use Rattle.cw_log_laws.proofs.JudgedLogs.{IsOf, judged-of}

-- ## Blocks that are right are found to be

item-same : (p : Production) → same_item p p ≡ true
item-same p = grind (arith, both, eq-eqb)

items-same : (ps : List Production) → pointwise same_item ps ps ≡ true
items-same [] = refl
items-same (p ∷ ps) = both (same_item p p) (pointwise same_item ps ps) (item-same p) (items-same ps)

right-found : (b : Block) → IsRightBlock start_flags b → is_right b ≡ true
right-found b h = ap (λ ps. pointwise same_item ps (told b)) h.right ∙ items-same (told b)

none-wrong : (blocks : List Block) → All (IsRightBlock start_flags) blocks → from_wrong blocks ≡ []
none-wrong [] all = refl
none-wrong (b ∷ blocks) all = ap (λ t. if t then from_wrong blocks else b ∷ blocks) (right-found b (All-head
    (IsRightBlock start_flags) b blocks all)) ∙ none-wrong blocks (All-tail (IsRightBlock start_flags) b blocks all)

-- ## The file

judged-run : (blocks : List Block) (lines : List (List ℕ)) (j : Judgement lines) → IsOf blocks j
    → judged j ≡ run_of (checked blocks)
judged-run blocks lines j same = grind arith

pub right-accepted : RightBlocksAreAccepted
right-accepted blocks all short =
    let file = log_text blocks in
    let fine = All-weaker (IsRightBlock start_flags) IsFineBlock (λ b h. h.fine) blocks all in
    let found : judged (judgement (pieces_of file)) ≡ run_of (checked blocks) = judged-run blocks (pieces_of file)
    (judgement (pieces_of file)) (judged-of blocks-are-told blocks (pieces_of file) fine (text-has-lines blocks fine)
    (judgement (pieces_of file))) in
    ap (λ t. if t then judged (judgement (pieces_of file)) else refused too_long_text) (le-leb
    (length file) LOG_LIMIT short) ∙ (found ∙ ap (λ later. run_of (checked_by blocks later)) (none-wrong blocks all))
