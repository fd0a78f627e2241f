-- Plain text made piece by piece: what is kept between two pieces, and what is still to come.
use Rattle.std.specs.Prelude.{◌≡◌, ℕ, nat_lt, List, [], ◌∷◌, ◌++◌, if◌then◌else◌}
use Rattle.cw_trees.specs.declared.Control.{Control}
use Rattle.cw_join.specs.Runs.{RunState, run_state}
use Rattle.cw_join.specs.model.Runs.{run_more}
use Rattle.cw_plain.specs.Lines.{Layout, at_start, backed, behind_piece, break_text, cut_off, ink_text, level_in}
use Rattle.cw_plain.specs.Lines.{piece_inks}
use Rattle.cw_plain.specs.Pieces.{Piece, Move}

-- The layout, whose level is moved at once, and what is kept of the run at hand.
pub record Laying : Type 0 where
  pub layout : Layout
  pub run : RunState

abbrev pub no_run : RunState
no_run = run_state []

abbrev pub begun : Laying
begun = record { layout = at_start; run = no_run }

-- with a Cancel a run prints nothing
abbrev pub ended_strength : RunState → ℕ
ended_strength run = if run.cancelled then 0 else run.strength

-- what the run prints when it has ended
abbrev pub ended_text : Laying → List ℕ
ended_text l =
    break_text (nat_lt 0 l.layout.depth) (backed l.run.backed l.layout.level) (ended_strength l.run)

abbrev pub ended : Laying → Layout
ended l = record {
  level = l.layout.level;
  depth = l.layout.depth;
  last = cut_off l.layout.last (ended_text l);
}

-- the run has one control more
abbrev pub with_control : Laying → Control → Laying
with_control l control = record {
  layout = record {
    level = level_in l.layout.depth l.layout.level (control ∷ []);
    depth = l.layout.depth;
    last = l.layout.last;
  };
  run = run_more l.run control;
}

-- Any other piece ends the run.
abbrev pub with_piece : Laying → Piece → Laying
with_piece l (Move control) = with_control l control
with_piece l piece = record { layout = behind_piece (ended l) piece; run = no_run }

abbrev pub piece_text : Laying → Piece → List ℕ
piece_text l (Move control) = []
piece_text l piece = ended_text l ++ ink_text (piece_inks (ended l).last piece)

-- A piece was laid: its text stands behind what was there.
pub record Lays (old : Laying) (piece : Piece) (out : List ℕ) (new : Laying) (out' : List ℕ) : Type 0 where
  pub text : out' ≡ out ++ piece_text old piece
  pub laying : new ≡ with_piece old piece

-- the text of these pieces, and of the run that has not ended before them
abbrev pub pieces_text : Laying → List Piece → List ℕ
pieces_text l [] = ended_text l
pieces_text l (piece ∷ pieces) = piece_text l piece ++ pieces_text (with_piece l piece) pieces
