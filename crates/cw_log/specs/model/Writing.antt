-- The texts of a web while their logs are written.
use Rattle.std.specs.Prelude.{ℕ, List, map}
use Rattle.std.specs.List.{flat_map}
use Rattle.cw_each.specs.EachText.{EndedText, TextSource, text_ended}
use Rattle.cw_each.specs.EachForms.{source_in}
use Rattle.cw_leaves.specs.declared.lines.TextLog.{TextLog}
use Rattle.cw_logs.specs.Appending.{block_of}
use Rattle.cw_logs.specs.LogText.{block_lines, ended}
use Rattle.cw_names.specs.Names.{Entry}
use Rattle.cw_texts.specs.declared.text_list.TextRef.{TextRef}
use Rattle.cw_texts.specs.Texts.{texts_of}
use Rattle.cw_translator.specs.Recording.{logged}
use Rattle.cw_log.specs.declared.writing.WebSource.{WebSource}

-- what stays while they are translated
abbrev pub source_of : WebSource → TextSource
source_of b = source_in b.text.now b.context

-- the texts
abbrev pub texts_in : WebSource → List TextRef
texts_in b = texts_of b.text.now b.context.uses.now b.outline.now.sections

-- a text that begins with these names
abbrev pub ended_by : TextSource → TextRef → List Entry → EndedText
ended_by s text names = record { text = text; ended = text_ended s text names }

-- what is recorded of it
abbrev pub recorded_of : TextSource → EndedText → List TextLog
recorded_of s t = map (logged s.flags) t.ended.known.ended

-- the text of a block that is recorded
abbrev pub block_bytes : List Entry → TextLog → List ℕ
block_bytes names text = flat_map ended (block_lines (block_of names text))
