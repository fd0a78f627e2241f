-- References in memory.
use Rattle.cw_secnames.specs.References.{Reference}
use Rattle.cw_phase1.specs.declared.name_lists.Referring.{Referring}

abbrev pub referring_of : Referring → Reference
referring_of r = record { name = r.name; how = r.how; section = r.section }
