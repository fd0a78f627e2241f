-- A book as its C texts leave it, translated one after another.
use Rattle.std.specs.Prelude.{ℕ, Bool, true, false, List, ◌++◌, fold}
use Rattle.cw_base.specs.Flags.{start_flags}
use Rattle.cw_base.specs.Web.{MergedLine, text_of}
use Rattle.cw_phase1.specs.Book.{book}
use Rattle.cw_phase1.specs.declared.book.Book.{Book}
use Rattle.cw_rules.specs.declared.tokens.Mode.{Mode}
use Rattle.cw_rules.specs.declared.tokens.Mode.TheVariants as modes
use Rattle.cw_press.specs.Done.{Done}
use Rattle.cw_press.specs.Texts.{setting, text_done}
use Rattle.cw_press.specs.Weaving.{underlined}
use Rattle.cw_texts.specs.Texts.{texts_of}
use Rattle.cw_texts.specs.declared.text_list.TextRef.{TextRef}

abbrev pub is_inner : Mode → Bool
is_inner modes.Inner = true
is_inner mode = false

-- what a text of the book prints and leaves, with the flags of the start
abbrev pub ref_done : List ℕ → TextRef → Book → Done ℕ
ref_done text ref b =
    text_done (setting text start_flags ref.section b) ref.mode (is_inner ref.mode) ref.span b.names

-- the book with the names, and so the categories, that a text of this section leaves; its marks are underlined there
abbrev pub left_with : ℕ → Done ℕ → Book → Book
left_with section d b = record {
  names = d.names;
  xrefs = b.xrefs ++ underlined section d.marks;
  sec_names = b.sec_names;
  name_uses = b.name_uses;
  outline = b.outline;
}

abbrev pub left_by_text : List ℕ → Book → TextRef → Book
left_by_text text b ref = left_with ref.section (ref_done text ref b) b

-- Each text is translated with the names that the one before it leaves.
abbrev pub left_by_texts : List ℕ → List TextRef → Book → Book
left_by_texts text refs b = fold (left_by_text text) b refs

-- the book of a web, as the texts of its sections leave it
abbrev pub left_book : List MergedLine → Book
left_book lines =
    left_by_texts (text_of lines)
    (texts_of (text_of lines) (book lines).name_uses (book lines).outline.sections) (book lines)
