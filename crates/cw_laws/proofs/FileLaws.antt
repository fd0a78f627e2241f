-- Each file of a run ends in a line, so all its bytes are written; and files that are there already are kept.
use Rattle.std.proofs.Common.{arith, ℕ, Bool, true, false, refl, List, [], ◌∷◌, ◌++◌, Option, codes, inl, inr, map}
use Rattle.std.proofs.Common.{slice_get}
use Rattle.std.specs.List.{AllByRecursion, flat_map, list_any}
use Rattle.std.proofs.lemmas.Bool.Decides.{nat_tests}
use Rattle.std.specs.Option.{option_map_or}
use Rattle.cw_input.specs.declared.words.CommandLine.{CommandLine}
use Rattle.cw_names.specs.Names.{Entry}
use Rattle.cw_phase1.specs.declared.book.Book.{Book}
use Rattle.cw_phase1.specs.declared.sections.Section.{Section}
use Rattle.cw_secnames.specs.Kept.{SecName}
use Rattle.cw_rules.specs.declared.tokens.Mode.TheVariants.{Inner}
use Rattle.cw_press.specs.Footnotes.{footnote, footnote_numbers, number_in, use_footnotes}
use Rattle.cw_texpart.specs.Limbo.{limbo_bytes}
use Rattle.cw_press.specs.Texts.{Setting, setting, text_done}
use Rattle.cw_index.specs.Closing.{changes_line, closing_lines, last_line, last_lines}
use Rattle.cw_index.specs.Index.{entry_bytes, row_bytes, section_bytes}
use Rattle.cw_index.specs.Mentions.{IndexRow}
use Rattle.cw_index.specs.NameList.{all_listed, listed_done, name_span, use_notes}
use Rattle.cw_index.specs.Standing.{listed_names}
use Rattle.cw_run.specs.Files.{OutFile}
use Rattle.cw_weave.specs.TexFile.{all_sections, left_by, tex_file}
use Rattle.cw_weave.specs.Woven.{index_files, index_of, index_out, list_out, name_list}
use Rattle.cw_laws.specs.Files.{EndInLine, FilesAreWhole, HasLineEnd, IsWritten, files_of}
use Rattle.cw_laws.proofs.CutLines.{uncut, written-ends, written-short}
use Rattle.cw_laws.proofs.Endings.{all-end, behind-any, both-end, ends-then, lines-end, none-pending}
use Rattle.cw_laws.proofs.FileEvents.{keeps, keeps-by-run}
use Rattle.cw_base.specs.declared.event.Out.TheVariants.{Tex}

is-written : (f : OutFile) → EndInLine f.bytes → IsWritten f
is-written f ended = grind (arith, nat_tests, none-pending, lines-end, uncut, written-short)

-- ## The TeX file

last-line : (starred : Bool) → HasLineEnd (last_line starred)
last-line true = (codes "\\con", refl)
last-line false = (codes "\\end", refl)

closing-ends : (index starred : Bool) → HasLineEnd (last_lines index starred)
closing-ends true starred = behind-any (codes "\\inx\n\\fin\n") (last_line starred) (last-line starred)
closing-ends false starred = (codes "\\end", refl)

tex-ends : (line : CommandLine) (text : List ℕ) (b : Book) → HasLineEnd (tex_file text line.flags b).out
tex-ends line text b =
    let changes : List ℕ = changes_line line.flags b.outline.sections in
    let last : List ℕ = last_lines line.flags.index
    (list_any (λ (section : Section). section.starred) b.outline.sections) in
    let closing : List ℕ = closing_lines line.flags b.outline.sections in
    behind-any (limbo_bytes text b.outline.limbo) ((all_sections text line.flags b).out ++ closing)
    (behind-any (all_sections text line.flags b).out closing (behind-any changes last
    (closing-ends line.flags.index (list_any (λ (section : Section). section.starred) b.outline.sections))))

-- ## The index

row-ends : (sections : List Section) (row : IndexRow) → HasLineEnd (row_bytes sections row)
row-ends sections row =
    let refs : List ℕ = flat_map (section_bytes sections) row.sections in
    behind-any (codes "\\I") (entry_bytes row.entry ++ (refs ++ codes ".\n"))
    (behind-any (entry_bytes row.entry) (refs ++ codes ".\n") (behind-any refs (codes ".\n") (codes ".", refl)))

index-ends : (left : Book) → EndInLine (index_of left)
index-ends left = grind (arith, nat_tests, all-end, row-ends)

-- ## The list of section names

footnote-ends : (sections : List Section) (letter : List ℕ) (ns : List ℕ) → EndInLine (footnote sections letter ns)
footnote-ends sections letter [] = inl refl
footnote-ends sections letter (n ∷ ns) =
    let numbers : List ℕ = footnote_numbers (map (number_in sections) (n ∷ ns)) in
    inr (behind-any (letter ++ numbers) (codes ".\n") (codes ".", refl))

uses-end : (sections : List Section) (name : SecName) → EndInLine (use_footnotes sections name)
uses-end sections name = both-end (footnote sections (codes "\\Q") name.cited) (footnote sections (codes "\\U")
    name.used) (footnote-ends sections (codes "\\Q") name.cited) (footnote-ends sections (codes "\\U") name.used)

kept-ends : (sections : List Section) (name : Option SecName)
    → EndInLine (option_map_or (use_footnotes sections) name [])
kept-ends sections name = grind (arith, nat_tests, uses-end)

names-uses : (s : Setting) (l : _) → EndInLine (use_notes s.book l)
names-uses s l = kept-ends s.book.outline.sections (slice_get s.book.sec_names l.id.index)

name-ends : (s : Setting) (l : _) (names : List Entry) → EndInLine (listed_done s l names).out
name-ends s l names =
    let text : List ℕ = (text_done s Inner false (name_span s.text l.place) names).out in
    inr (behind-any (codes "\\I") (text ++ (codes "\n" ++ use_notes s.book l))
    (behind-any text (codes "\n" ++ use_notes s.book l)
    (ends-then (codes "\n") (use_notes s.book l) ([], refl) (names-uses s l))))

names-end : (s : Setting) (ls : List _) (names : List Entry) → EndInLine (all_listed s ls names).out
names-end s [] names = inl refl
names-end s (l ∷ ls) names = both-end (listed_done s l names).out (all_listed s ls (listed_done s l names).names).out
    (name-ends s l names) (names-end s ls (listed_done s l names).names)

-- ## All files

index-written : (t : Bool) (line : CommandLine) (text : List ℕ) (left : Book)
    → AllByRecursion IsWritten (index_files t line text left)
index-written false line text left = tt
index-written true line text left = grind (
  arith,
  is-written (index_out line.outputs (index_of left)) (index-ends left),
  is-written (list_out line.outputs (name_list text line.flags left).out)
      (names-end (setting text line.flags 0 left) (listed_names left.sec_names left.name_uses) left.names),
)

all-written : (line : CommandLine) (text : List ℕ) (b : Book) → AllByRecursion IsWritten (files_of line text b)
all-written line text b =
    let tex : List ℕ = (tex_file text line.flags b).out in (
      is-written (record { out = Tex; name = line.outputs.tex; bytes = tex }) (inr (tex-ends line text b)),
      index-written line.flags.index line text (left_by text line.flags b (tex_file text line.flags b)),
    )

pub files-whole : FilesAreWhole
files-whole = record {
  all = all-written;
  tex = λ line text b. written-ends (tex_file text line.flags b).out (tex-ends line text b);
  kept = keeps;
  kept_by_run = keeps-by-run;
  uncut = uncut;
}
