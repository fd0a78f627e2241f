-- Tokens in their places, in memory.
use Rattle.cw_rules.specs.Answers.{seen}
use Rattle.cw_phase1.specs.declared.placing.Placement.{Placement as InMemory}
use Rattle.cw_phase1.specs.Roles.{Placement}

abbrev pub placed_of : InMemory → Placement
placed_of p = record { section = p.section; part = p.part; role = p.role; token = seen p.token; name = p.name }
