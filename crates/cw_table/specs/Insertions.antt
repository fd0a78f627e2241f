-- What the pieces of a row put into a translation.
use Rattle.cw_base.specs.declared.mode.MathMode.TheVariants.{Math, Maybe}
use Rattle.cw_trees.specs.declared.Control.{Control}
use Rattle.cw_trees.specs.declared.Control.TheVariants as control
use Rattle.cw_trees.specs.Joining.{needs}
use Rattle.cw_table.specs.declared.types.Insertion.{Insertion}
use Rattle.cw_table.specs.declared.types.Insertion.TheVariants.{Scrap, Sign}
use Rattle.cw_table.specs.declared.types.Piece.{Piece}
use Rattle.cw_table.specs.declared.types.Piece.TheVariants as piece

-- a control, with the mode that it needs
abbrev pub needing : Control → Insertion
needing sign = Sign sign (needs sign)

-- a scrap with the mode in which it is joined where it could be in either, or the control of a sign; no row counts an
-- Unused place
abbrev pub insertion_of : Piece → Insertion
insertion_of (piece.Scrap k) = Scrap k Maybe
insertion_of (piece.MathScrap k) = Scrap k Math
insertion_of piece.Unused = needing control.Inserted
insertion_of piece.Blank = needing control.Blank
insertion_of piece.OptionalBreak = needing control.OptionalBreak
insertion_of piece.Break = needing control.Break
insertion_of piece.BigBreak = needing control.BigBreak
insertion_of piece.Cancel = needing control.Cancel
insertion_of piece.Backup = needing control.Backup
insertion_of piece.Wall = needing control.Wall
insertion_of piece.Indent = needing control.Indent
insertion_of piece.Outdent = needing control.Outdent
insertion_of piece.OptionalLineBreak0 = needing control.OptionalLineBreak0
insertion_of piece.OptionalLineBreak9 = needing control.OptionalLineBreak9
insertion_of piece.ThinSpace = needing control.ThinSpace
insertion_of piece.OpenBrace = needing control.OpenBrace
insertion_of piece.CloseBrace = needing control.CloseBrace
insertion_of piece.OpenRelation = needing control.OpenRelation
insertion_of piece.Inserted = needing control.Inserted
