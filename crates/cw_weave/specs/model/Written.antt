-- What contracts see of the files that were written.
use Rattle.std.specs.Prelude.{◌≡◌, ℕ, List, [], ◌∷◌, Option, Some, None, map, length}
use Rattle.cw_base.specs.declared.event.Event.{Event}
use Rattle.cw_base.specs.declared.flags.Flags.{Flags}
use Rattle.cw_desk.specs.Meaning.{NamedFiles}
use Rattle.cw_input.specs.declared.words.OutputNames.{OutputNames}
use Rattle.cw_phase1.specs.declared.book.Book.{Book}
use Rattle.cw_translator.specs.Counting.{productions_in, scraps_in}
use Rattle.cw_press.specs.Done.{Done}
use Rattle.cw_run.specs.Files.{Broken, OutFile, broken_at, broken_in, broken_lines}
use Rattle.cw_weave.specs.model.Pressing.{flags_in, left_in, tex_in, text_in}
use Rattle.cw_weave.specs.Statistics.{totals_of}
use Rattle.cw_weave.specs.Woven.{files_events, index_files}
use Rattle.cw_weave.specs.declared.files.IndexFiles.{IndexFiles}
use Rattle.cw_weave.specs.declared.files.WrittenFiles.{WrittenFiles}
use Rattle.cw_weave.specs.declared.source.WeaveSource.{WeaveSource}
use Rattle.cw_weave.specs.declared.tex_file.TexFile.{TexFile}
use Rattle.cw_lines.specs.Cut.{cut}
use Rattle.cw_lines.specs.Line.{as_count}
use Rattle.cw_base.specs.declared.event.Out.TheVariants.{Tex}

-- The TeX file was written, and its C texts are counted.
pub record IsTexFile (flags : Flags) (d : Done ℕ) (t : TexFile) : Type 0 where
  pub broken : t.lines.line.broken ≡ broken_lines d.out
  pub lines : t.lines.line.lines ≡ as_count (length (cut d.out).lines)
  pub scraps : t.counts.scraps ≡ scraps_in d.ended
  pub productions : t.counts.productions ≡ productions_in flags d.ended

-- the lines that had no good place to be cut, file by file, in the order of writing
abbrev pub index_broken : OutputNames → Option IndexFiles → List Broken
index_broken names None = []
index_broken names (Some index) = broken_at names.idx index.idx ∷ broken_at names.scn index.scn ∷ []

abbrev pub all_broken : OutputNames → WrittenFiles → List Broken
all_broken names w = broken_at names.tex w.tex ∷ index_broken names w.index

-- ## All files of a book

abbrev pub tex_of : WeaveSource → Book → OutFile
tex_of source b = record { out = Tex; name = source.line.now.outputs.tex; bytes = (tex_in source b).out }

-- the index and the list of section names of a book as its TeX file leaves it
abbrev pub index_in : WeaveSource → Book → List OutFile
index_in source left = index_files (flags_in source).index source.line.now (text_in source) left

abbrev pub files_in : WeaveSource → Book → List OutFile
files_in source b = tex_of source b ∷ index_in source (left_in source b)

abbrev pub events_of : WeaveSource → Book → NamedFiles → List Event
events_of source b named = files_events (flags_in source) (tex_of source b) (index_in source (left_in source b)) named

-- They were written.
pub record AreWritten (source : WeaveSource) (b : Book) (w : WrittenFiles) : Type 0 where
  pub broken : all_broken source.line.now.outputs w ≡ map broken_in (files_in source b)
  pub totals : w.totals ≡ totals_of (flags_in source) b.outline.sections (tex_in source b)
