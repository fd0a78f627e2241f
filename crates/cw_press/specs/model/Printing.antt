-- What the C texts of a book print, as calls are given them.
use Rattle.std.specs.Prelude.{ℕ, List}
use Rattle.cw_names.specs.Names.{Entry}
use Rattle.cw_phase1.specs.declared.book.Book.{Book}
use Rattle.cw_print.specs.Sources.{source_at}
use Rattle.cw_print.specs.Walk.{tree_bytes}
use Rattle.cw_trees.specs.Tree.{Tree}
use Rattle.cw_press.specs.declared.texts.CText.{CText}
use Rattle.cw_press.specs.Done.{Done}
use Rattle.cw_press.specs.Texts.{Lasting, Setting, text_done}

abbrev pub setting_of : CText → Lasting → Setting
setting_of c book = record { text = c.text.now; flags = c.flags.now; book = book; section = c.section }

abbrev pub text_printed : CText → Lasting → List Entry → Done ℕ
text_printed c book names = text_done (setting_of c book) c.mode c.inner c.span names

-- what a tree prints as this C text of the book
abbrev pub text_bytes : CText → Book → Tree → List ℕ
text_bytes c book tree = tree_bytes c.inner (source_at c.text.now c.span c.mode book c.section c.flags.now) tree
