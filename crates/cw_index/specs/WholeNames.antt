-- The names of a book's section list are whole.
use Rattle.std.specs.Prelude.{List, All}
use Rattle.cw_base.specs.Web.{MergedLine, text_of}
use Rattle.cw_phase1.specs.Book.{book}
use Rattle.cw_index.specs.NameList.{IsWholeName}
use Rattle.cw_index.specs.Standing.{listed_names}

-- Each name of the section list of every web is whole.
abbrev pub NamesAreWhole : Type 0
NamesAreWhole = (lines : List MergedLine) → All (IsWholeName (text_of lines))
    (listed_names (book lines).sec_names (book lines).name_uses)
