-- What is seen of scraps, and their leaf lines, tell their log.
use Rattle.std.specs.Prelude.{◌≡◌, nat_eq, List, map, All}
use Rattle.cw_base.specs.declared.flags.Flags.{Flags}
use Rattle.cw_names.specs.Names.{Entry, AreDistinct}
use Rattle.cw_table.specs.declared.types.Row.{Row}
use Rattle.cw_table.specs.Normal.{log}
use Rattle.cw_table.specs.Rewriting.{State}
use Rattle.cw_leaves.specs.LeafLines.{leaf_line, log_of_lines, IsTold}
use Rattle.cw_leaves.specs.Sights.{sight, seen_log}

-- The log of scraps is that of what is seen of them, whatever the rows are.
abbrev pub SightsHaveLog : Type 0
SightsHaveLog = (rows : List Row) (flags : Flags) (state : State)
    → log rows flags state ≡ seen_log nat_eq rows flags (map sight state.scraps)

-- The log of scraps is that of their leaf lines.
abbrev pub LinesHaveLog : Type 0
LinesHaveLog = (rows : List Row) (flags : Flags) (names : List Entry) (state : State) → AreDistinct names
    → All (IsTold names) state.scraps
    → log rows flags state ≡ log_of_lines rows flags (map (leaf_line names) state.scraps)

-- Scraps with the same leaf lines have the same log, though they stand over other names.
abbrev pub SameLinesSameLog : Type 0
SameLinesSameLog = (rows : List Row) (flags : Flags) (names others : List Entry) (state other : State)
    → AreDistinct names → AreDistinct others → All (IsTold names) state.scraps → All (IsTold others) other.scraps
    → map (leaf_line names) state.scraps ≡ map (leaf_line others) other.scraps
    → log rows flags state ≡ log rows flags other
