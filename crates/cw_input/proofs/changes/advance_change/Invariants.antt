-- The lines that are left, in the phase so far, give from the state so far what all give from the first state; and the
-- room that was enough at first is enough for what is left.
use Rattle.std.proofs.Common.{◌≡◌, ◌+◌, ◌-◌, ◌*◌, ◌<◌, ◌≤◌, length}
use Rattle.std.specs.FinMap.{get}
use Rattle.cw_base.specs.{declared.limits.TheConstants.INPUT_LIMIT, Web.text_of}
use Rattle.cw_desk.specs.{Meaning.Files, State.OnlyReads}
use Rattle.cw_input.specs.{model.Fold.advance, Reading.ReadsOn}
use Rattle.cw_input.specs.model.State.{IsPhase, lines_from, rest_of, state_of}
use Rattle.cw_input.proofs.changes.advance_change.Given as goal

abbrev pub invariant-lines : goal.invariant-lines
invariant-lines g l = let told = g.D.Desk.told in record {
  within : l.at ≤ length l.change;
  count : l.line ≤ l.at;
  phase : IsPhase l.line l.phase;
  listed : 1 < length l.m.web.files;
  text : length (text_of l.m.web.lines) + 2 * (length l.change - l.at) + 2 * (INPUT_LIMIT - l.m.sum)
      ≤ length (text_of l.fn.m.web.lines) + 2 * (length l.change - l.fn.rest.at) + 2 * (INPUT_LIMIT - l.fn.m.sum);
  files : length l.m.web.files + (length l.change - l.at) + (INPUT_LIMIT - l.m.sum) ≤ length l.fn.m.web.files
      + (length l.change - l.fn.rest.at) + (INPUT_LIMIT - l.fn.m.sum);
  sum : l.m.sum ≤ INPUT_LIMIT;
  more_files : length l.fn.m.web.files ≤ length l.m.web.files;
  gives : (files : Files) → (told l.desk).agrees files → advance (get files) l.fn.from (record
      { file = 1; line = l.fn.rest.line }) (rest_of l.change l.fn.rest) (state_of l.change l.fn.m) ≡ advance (get files)
      l.phase (record { file = 1; line = l.line }) (lines_from 1 l.line l.at l.change) (state_of l.change l.m);
  same : OnlyReads (told l.fn.desk) (told l.desk);
  most : ReadsOn l.fn.m.sum l.m.sum (told l.fn.desk) (told l.desk);
}

abbrev pub decreases-lines : goal.decreases-lines
decreases-lines g l = length l.change - l.at
