-- The book that the C texts of a web leave, for each program that translates them.
use Rattle.std.specs.Prelude.{◌≡◌, List, ◌++◌, fold}
use Rattle.cw_base.specs.Flags.{start_flags}
use Rattle.cw_base.specs.Web.{MergedLine, WebState, text_of}
use Rattle.cw_base.specs.declared.flags.Flags.{Flags}
use Rattle.cw_phase1.specs.Book.{book}
use Rattle.cw_phase1.specs.declared.book.Book.{Book}
use Rattle.cw_press.specs.Weaving.{underlined}
use Rattle.cw_texts.specs.Texts.{texts_of}
use Rattle.cw_each.specs.EachText.{EndedText, book_source, each_text}
use Rattle.cw_mini.specs.Left.{left_book}
use Rattle.cw_weave.specs.TexFile.{left_by, tex_file}
use Rattle.cw_weave.specs.Woven.{book_of}

-- Two books have the same names, with their categories. These occur in the same sections, and are underlined in the
-- same.
pub record HaveTheSameNames (b c : Book) : Type 0 where
  pub names : b.names ≡ c.names
  pub occurrences : b.xrefs ≡ c.xrefs

-- ## The book from which the index is printed

-- the book of a web as its TeX file leaves it, for these flags: its index is printed of it
abbrev pub woven_book : Flags → WebState → Book
woven_book flags web =
    let b = book_of flags web in
    left_by (text_of web.lines) flags b (tex_file (text_of web.lines) flags b)

-- Flags choose between the two translations of a production as those of the start do.
pub record TranslateAsAtFirst (flags : Flags) : Type 0 where
  pub indent : flags.indent ≡ start_flags.indent
  pub separate : flags.separate ≡ start_flags.separate
  pub force : flags.force ≡ start_flags.force

-- The book of which small indexes are made has the names and occurrences of that from which the index is printed.
abbrev pub LeavesTheWovenBook : Type 0
LeavesTheWovenBook =
    (web : WebState) (flags : Flags) → TranslateAsAtFirst flags
    → HaveTheSameNames (left_book web.lines) (woven_book flags web)

-- ## Texts that are translated one after another

-- the book with the names, and so the categories, that a text leaves; its marks are underlined in its section
abbrev pub left_by_ended : Book → EndedText → Book
left_by_ended b text = record {
  names = text.ended.known.names;
  xrefs = b.xrefs ++ underlined text.text.section text.ended.known.marks;
  sec_names = b.sec_names;
  name_uses = b.name_uses;
  outline = b.outline;
}

abbrev pub left_by_each : Book → List EndedText → Book
left_by_each b texts = fold left_by_ended b texts

-- the texts of a web, translated one after another
abbrev pub ended_texts : List MergedLine → List EndedText
ended_texts lines =
    each_text (book_source (text_of lines) (book lines))
    (texts_of (text_of lines) (book lines).name_uses (book lines).outline.sections) (book lines).names

-- They leave the book of which small indexes are made.
abbrev pub EachLeavesTheBook : Type 0
EachLeavesTheBook = (lines : List MergedLine) → left_by_each (book lines) (ended_texts lines) ≡ left_book lines
