-- The log of a web: a block for each C text whose reduction ends, in the order in which they end.
use Rattle.std.specs.Prelude.{ℕ, List, map}
use Rattle.std.specs.List.{flat_map}
use Rattle.cw_base.specs.declared.flags.Flags.{Flags}
use Rattle.cw_base.specs.Web.{MergedLine, text_of}
use Rattle.cw_each.specs.EachText.{EndedText, TextSource, book_source, each_text}
use Rattle.cw_leaves.specs.LeafLines.{leaf_line}
use Rattle.cw_logs.specs.LogText.{Block, log_text}
use Rattle.cw_names.specs.Names.{Entry}
use Rattle.cw_phase1.specs.Book.{book}
use Rattle.cw_phase1.specs.declared.book.Book.{Book}
use Rattle.cw_table.specs.Normal.{log}
use Rattle.cw_table.specs.Productions.{productions}
use Rattle.cw_table.specs.Rewriting.{State}
use Rattle.cw_texts.specs.declared.text_list.TextRef.{TextRef}
use Rattle.cw_texts.specs.Texts.{texts_of}

-- The leaf lines and the productions of a text that begins with these scraps. Names keep their texts, so it doesn't
-- matter of which later list these are.
abbrev pub state_block : Flags → List Entry → State → Block
state_block flags names state = record {
  leaves = map (leaf_line names) state.scraps;
  items = log productions flags state;
}

-- those of a C text and of its inner texts
abbrev pub text_blocks : Flags → EndedText → List Block
text_blocks flags t = map (state_block flags t.ended.known.names) t.ended.known.ended

-- those of these texts, the first of which begins with these names
abbrev pub blocks_from : TextSource → List TextRef → List Entry → List Block
blocks_from s texts names = flat_map (text_blocks s.flags) (each_text s texts names)

-- ## A web, with the flags of the start

abbrev pub book_blocks : List ℕ → Book → List Block
book_blocks text b = blocks_from (book_source text b) (texts_of text b.name_uses b.outline.sections) b.names

abbrev pub log_blocks : List MergedLine → List Block
log_blocks lines = book_blocks (text_of lines) (book lines)

abbrev pub log_file : List MergedLine → List ℕ
log_file lines = log_text (log_blocks lines)
