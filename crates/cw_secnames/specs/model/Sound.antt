-- What is true of all section names: they are marked, and what refers to them ascends.
use Rattle.std.specs.Prelude.{List}
use Rattle.cw_secnames.specs.declared.name_marks.NameMarks.{NameMarks}
use Rattle.cw_secnames.specs.Kept.{SecName}
use Rattle.cw_secnames.specs.model.NameMarks.{AreMarkedNames}
use Rattle.cw_secnames.specs.References.{ReferAscending}

pub record AreSound (marks : NameMarks) (names : List SecName) : Type 0 where
  pub marked : AreMarkedNames marks 0 names
  pub ascending : ReferAscending names
