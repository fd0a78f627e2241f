-- What a leaf line and a production of a log say.
use Rattle.std.specs.Prelude.{◌<◌, ℕ, List, map, length, All}
use Rattle.cw_base.specs.declared.category.Cat.{Cat}
use Rattle.cw_names.specs.declared.entry.NameId.{NameId}
use Rattle.cw_names.specs.Names.{Entry}
use Rattle.cw_trees.specs.Joining.{Scrap}
use Rattle.cw_trees.specs.Tree.{Tree, bare_name}
use Rattle.cw_table.specs.Normal.{Production}
use Rattle.cw_leaves.specs.declared.lines.LeafLine.{LeafLine}
use Rattle.cw_leaves.specs.declared.lines.LogItem.{LogItem}
use Rattle.cw_leaves.specs.declared.lines.TextLog.{TextLog}
use Rattle.cw_leaves.specs.LeafLines.{Line, kind_by, said, text_at}

-- the line with the texts of its names
abbrev pub spelled : List Entry → LeafLine → Line
spelled names line = record {
  kind = line.kind;
  cat = line.cat;
  names = map (λ id. text_at names id.index) line.names;
}

abbrev pub production_of : LogItem → Production
production_of item = record { number = item.row.number; place = item.place }

abbrev pub id_of : ℕ → NameId
id_of name = record { index = name }

abbrev pub line_by : Cat → Tree → LeafLine
line_by cat tree = record {
  kind = kind_by (bare_name tree) (said tree).stops (said tree).names;
  cat = cat;
  names = map id_of (said tree).names;
}

-- What is told of a scrap and of a production: names stand in it by their places in the list of names.
abbrev pub line_of : Scrap → LeafLine
line_of scrap = line_by scrap.cat scrap.tree

abbrev pub item_of : Production → LogItem
item_of p = record { row = record { number = p.number }; place = p.place }

-- Its names are among these.
abbrev pub IsKnown : List Entry → LeafLine → Type 0
IsKnown names line = All (λ id. id.index < length names) line.names

abbrev pub AreKnown : List Entry → TextLog → Type 0
AreKnown names log = All (IsKnown names) log.leaves
