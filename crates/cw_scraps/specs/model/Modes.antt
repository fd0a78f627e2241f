-- The law of modes: what is joined of pieces that agree with their modes agrees with its own.
use Rattle.std.specs.Prelude.{◌≡◌, List, All}
use Rattle.cw_base.specs.declared.mode.MathMode.{MathMode}
use Rattle.cw_base.specs.declared.mode.MathMode.TheVariants.{Maybe}
use Rattle.cw_trees.specs.declared.Control.{Control}
use Rattle.cw_trees.specs.Joining.{JoinPiece, Whole, Mark, needs, stays, reads_sign, Agrees, joined_tree, joined_left}
use Rattle.cw_trees.specs.Joining.{joined_right}

-- a control that leads from no mode to another: every one but the toggles and the dollar
abbrev pub IsSteady : Control → Type 0
IsSteady control = (mode : MathMode) → reads_sign control mode ≡ stays (needs control) mode

abbrev pub piece_agrees : JoinPiece → Type 0
piece_agrees (Whole tree left right) = Agrees tree left right
piece_agrees (Mark control) = IsSteady control

-- Of all such pieces: either both modes are Maybe and nothing in the tree needs a mode, or neither is Maybe and
-- the tree leads from the left one to the right one.
abbrev pub JoinsAgree : Type 0
JoinsAgree = (pieces : List JoinPiece) → All piece_agrees pieces
    → Agrees (joined_tree Maybe pieces) (joined_left pieces) (joined_right Maybe pieces)
