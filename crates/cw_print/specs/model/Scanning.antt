-- Where tokens are sought among answers, and which numbers lie ahead.
use Rattle.std.specs.Prelude.{◌-◌, ◌≤◌, List, drop, length, take}
use Rattle.cw_rules.specs.Answers.{Answer}
use Rattle.cw_print.specs.declared.scan.Seek.{Seek}
use Rattle.cw_print.specs.model.Found.{IsAhead}

-- The answers among which a token is sought.
abbrev pub among : List Answer → Seek → List Answer
among all seek = take seek.«end» all

-- So many answers are behind, and each number from one on has its token among the others.
pub record IsSeeking (all : List Answer) (seek : Seek) : Type 0 where
  pub order : seek.place ≤ seek.«end»
  pub within : seek.«end» ≤ length all
  pub ahead : IsAhead (among all seek) seek.from (take (seek.«end» - seek.place) (drop seek.place all))
