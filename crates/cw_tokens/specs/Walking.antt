-- The walk through a tree in its store: down by the tokens that refer to lists, and up by the links.
use Rattle.std.specs.Prelude.{Option, Some}
use Rattle.std.specs.Prelude.{None}
use Rattle.cw_names.specs.declared.NameId.{NameId}
use Rattle.cw_trees.specs.Tree.{Search, Found, Stopped, Nothing}

-- the name that a search for an identifier finds
abbrev pub found_name : Search → Option NameId
found_name (Found name) = Some (record { index = name })
found_name Stopped = None
found_name Nothing = None
