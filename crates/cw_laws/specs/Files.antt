-- What holds of the files that a run over a web writes: its TeX file, its index and its list of section names.
use Rattle.std.specs.Prelude.{◌≡◌, ◌⊎◌, ℕ, Bool, true, false, List, [], ◌∷◌, ◌++◌, Some, None, length, ◌≤◌}
use Rattle.std.specs.List.{AllByRecursion, filter, flat_map, list_any}
use Rattle.cw_base.specs.Bytes.{newline}
use Rattle.cw_base.specs.Web.{WebState, text_of}
use Rattle.cw_base.specs.declared.event.Event.{Event}
use Rattle.cw_base.specs.declared.event.Event.TheVariants.{Byte, Drafted, Kept, Made, Replaced}
use Rattle.cw_base.specs.declared.event.Out.TheVariants.{Term, Tex}
use Rattle.cw_desk.specs.Meaning.{NamedFiles}
use Rattle.cw_input.specs.Merged.{Whole, merged}
use Rattle.cw_input.specs.Overwriting.{overwriting}
use Rattle.cw_input.specs.Words.{command_of}
use Rattle.cw_input.specs.declared.words.Command.TheVariants.{Weave}
use Rattle.cw_input.specs.declared.words.CommandLine.{CommandLine}
use Rattle.cw_lines.specs.Cut.{cut, split, written}
use Rattle.cw_lines.specs.Line.{line_events}
use Rattle.cw_phase1.specs.declared.book.Book.{Book}
use Rattle.cw_run.specs.Files.{OutFile}
use Rattle.cw_weave.specs.TexFile.{left_by, tex_file}
use Rattle.cw_weave.specs.Woven.{book_of, index_files, weave_book, woven}

-- ## How files end

-- A newline is the last byte.
abbrev pub HasLineEnd : List ℕ → Type 0
HasLineEnd bytes = (front : List ℕ) × (bytes ≡ front ++ newline ∷ [])

-- There are no bytes, or a newline is the last.
abbrev pub EndInLine : List ℕ → Type 0
EndInLine bytes = (bytes ≡ []) ⊎ HasLineEnd bytes

-- what is written of the bytes of a file: the lines that are cut from them, each with its end
abbrev pub written_of : List ℕ → List ℕ
written_of bytes = written (cut bytes).lines

-- None of the lines of these bytes has more than 80, nor have the bytes behind the last newline.
pub record HaveShortLines (bytes : List ℕ) : Type 0 where
  pub ended : AllByRecursion (λ line. length line ≤ 80) (split bytes).ended
  pub last : length (split bytes).last ≤ 80

-- All bytes of a file are written: none waits behind its last line. What is written ends with a line. Where no line has
-- more than 80 bytes, just the bytes of the file are written.
pub record IsWritten (f : OutFile) : Type 0 where
  pub whole : (cut f.bytes).pending ≡ []
  pub ends : EndInLine (written_of f.bytes)
  pub uncut : HaveShortLines f.bytes → written_of f.bytes ≡ f.bytes

-- the files of a book
abbrev pub files_of : CommandLine → List ℕ → Book → List OutFile
files_of line text b =
    record { out = Tex; name = line.outputs.tex; bytes = (tex_file text line.flags b).out }
    ∷ index_files line.flags.index line text (left_by text line.flags b (tex_file text line.flags b))

-- ## Files that are there already

-- The file of its name is there, with just the bytes that are written.
abbrev pub IsThere : NamedFiles → OutFile → Type 0
IsThere named f = named f.name ≡ Some (written_of f.bytes)

-- whether an event is of a file, and not of the terminal
abbrev pub is_of_file : Event → Bool
is_of_file (Byte Term byte) = false
is_of_file event = true

-- whether an event makes a file, or puts a draft in the place of one
abbrev pub rewrites : Event → Bool
rewrites (Made out name) = true
rewrites (Replaced out) = true
rewrites event = false

-- A draft of a file is begun, its lines are written to that, and the file of its name is kept.
abbrev pub kept_events : OutFile → List Event
kept_events f = Drafted f.out f.name ∷ (line_events f.out (cut f.bytes).lines ++ Kept f.out ∷ [])

-- All that the events do to files is to keep these, one after another. So none is made, and none is replaced.
pub record KeepEach (files : List OutFile) (events : List Event) : Type 0 where
  pub each : filter is_of_file events ≡ flat_map kept_events files
  pub unchanged : list_any rewrites events ≡ false

-- These words ask for the weaving of a web that is there, none of whose outputs has the name of an input or of an
-- output before it.
pub record AskFor (words : List (List ℕ)) (named : NamedFiles) (line : CommandLine) (web : WebState) : Type 0 where
  pub line_is : command_of words ≡ Weave line
  pub web_is : merged named line.web line.change ≡ Whole web
  pub apart : overwriting web.files line ≡ None

-- ## The law

pub record FilesAreWhole : Type 0 where
  pub all : (line : CommandLine) (text : List ℕ) (b : Book)
      → AllByRecursion IsWritten (files_of line text b)
  -- The TeX file is never empty: what is written of it ends with a line's end.
  pub tex : (line : CommandLine) (text : List ℕ) (b : Book) → HasLineEnd (written_of (tex_file text line.flags b).out)
  -- With flag k, where each file is there with just the bytes that are written, a run keeps them all.
  pub kept : (line : CommandLine) (web : WebState) (b : Book) (named : NamedFiles) → line.flags.keep ≡ true
      → AllByRecursion (IsThere named) (files_of line (text_of web.lines) b)
      → KeepEach (files_of line (text_of web.lines) b) (weave_book line web b named).rest
  -- So does the whole run, from its words on.
  pub kept_by_run : (words : List (List ℕ)) (named : NamedFiles) (line : CommandLine) (web : WebState)
      → AskFor words named line web → line.flags.keep ≡ true
      → AllByRecursion (IsThere named) (files_of line (text_of web.lines) (book_of line.flags web))
      → KeepEach (files_of line (text_of web.lines) (book_of line.flags web)) (woven words named).rest
  -- Bytes none of whose lines has more than 80 are written as they are, but those behind the last line, which wait.
  pub uncut : (bytes : List ℕ) → HaveShortLines bytes → written_of bytes ++ (cut bytes).pending ≡ bytes
