-- The file of plain texts: one for each C part that is printed.
use Rattle.std.specs.Prelude.{ℕ, List, [], ◌++◌, codes, decimal}
use Rattle.std.specs.List.{flat_map}
use Rattle.cw_base.specs.Web.{WebState, text_of}
use Rattle.cw_names.specs.Names.{Entry}
use Rattle.cw_phase1.specs.Book.{book}
use Rattle.cw_phase1.specs.declared.book.Book.{Book}
use Rattle.cw_rules.specs.declared.tokens.Mode.{Mode}
use Rattle.cw_rules.specs.declared.tokens.Mode.TheVariants as modes
use Rattle.cw_texts.specs.Scans.{scanned}
use Rattle.cw_texts.specs.Texts.{texts_of}
use Rattle.cw_texts.specs.declared.text_list.TextRef.{TextRef}
use Rattle.cw_each.specs.EachText.{EndedText, TextSource as EachSource, book_source, each_text}
use Rattle.cw_plain.specs.Plain.{plain_tree}
use Rattle.cw_plain.specs.Titles.{source_by}

-- the plain text of a C text that is translated
abbrev pub text_plain : EachSource → EndedText → List ℕ
text_plain s t = plain_tree (source_by (scanned t.text.mode s.text t.text.span) s.sec_names s.name_uses) t.ended.tree

-- A part has a line with its section's number, its plain text, a line's end and an empty line.
abbrev pub part_lines : ℕ → List ℕ → List ℕ
part_lines number plain = codes "section " ++ decimal number ++ codes "\n" ++ plain ++ codes "\n\n"

-- Only C parts are written; of the other texts it matters which categories they leave.
abbrev pub lines_by : Mode → ℕ → List ℕ → List ℕ
lines_by modes.CPart number plain = part_lines number plain
lines_by mode number plain = []

abbrev pub text_lines : EachSource → EndedText → List ℕ
text_lines s t = lines_by t.text.mode t.text.section (text_plain s t)

-- the lines of these texts, the first of which begins with these names
abbrev pub texts_lines : EachSource → List TextRef → List Entry → List ℕ
texts_lines s texts names = flat_map (text_lines s) (each_text s texts names)

-- ## The file of a web, with the flags of the start

abbrev pub plain_book : List ℕ → Book → List ℕ
plain_book text b = texts_lines (book_source text b) (texts_of text b.name_uses b.outline.sections) b.names

abbrev pub plain_web : WebState → List ℕ
plain_web web = plain_book (text_of web.lines) (book web.lines)
