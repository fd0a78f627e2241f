-- What the small indexes of a web are to the index that is printed of it.
use Rattle.std.specs.Prelude.{ℕ, List}
use Rattle.cw_base.specs.Web.{WebState}
use Rattle.cw_base.specs.declared.flags.Flags.{Flags}
use Rattle.cw_index.specs.Mentions.{IndexRow, index_rows}
use Rattle.cw_mini.specs.Left.{left_book}
use Rattle.cw_mini.specs.Mini.{MiniRow, mini_rows}
use Rattle.cw_mini.specs.MiniLaws.{AreOf}
use Rattle.cw_laws.specs.Left.{TranslateAsAtFirst, woven_book}

-- the rows of the index that is printed of a web, with these flags
abbrev pub woven_rows : Flags → WebState → List IndexRow
woven_rows flags web = let b = woven_book flags web in index_rows b.names b.xrefs

-- the rows of a section in the file of small indexes of a web
abbrev pub small_index : WebState → ℕ → List MiniRow
small_index web section = let b = left_book web.lines in mini_rows section b.names b.xrefs

-- Each section that is listed for a name is another one than the row's own, and in the index of the same web it is
-- underlined for the same name.
abbrev pub SmallIndexesAreOfTheIndex : Type 0
SmallIndexesAreOfTheIndex =
    (web : WebState) (flags : Flags) (section : ℕ) → TranslateAsAtFirst flags
    → AreOf section (woven_rows flags web) (small_index web section)
