-- The index, as it is printed: a line for each row.
use Rattle.std.specs.Prelude.{ℕ, Bool, List, [], ◌++◌, codes, if◌then◌else◌}
use Rattle.std.specs.List.{flat_map}
use Rattle.cw_base.specs.declared.category.Cat.{Cat}
use Rattle.cw_join.specs.Tokens.{is_tex_like, macro_bytes}
use Rattle.cw_names.specs.declared.entry.EntryKind.{EntryKind}
use Rattle.cw_names.specs.declared.entry.EntryKind.TheVariants.{Ident, Roman, Typewriter, User}
use Rattle.cw_names.specs.declared.xrefs.Occurrence.{Occurrence}
use Rattle.cw_names.specs.declared.xrefs.SectionRef.{SectionRef}
use Rattle.cw_names.specs.Names.{Entry}
use Rattle.cw_phase1.specs.declared.sections.Section.{Section}
use Rattle.cw_print.specs.Escaping.{braced}
use Rattle.cw_print.specs.Sources.{is_changed}
use Rattle.cw_print.specs.Walk.{section_number}
use Rattle.cw_table.specs.Sound.{is_exp}
use Rattle.cw_trees.specs.Printing.{ident_bytes, reserved_bytes}
use Rattle.cw_index.specs.Mentions.{IndexRow, index_rows}

-- Identifiers print as they do in C text, and macros of TeX in a formula; the other texts are TeX's and stay as they
-- are.
abbrev pub formula : List ℕ → List ℕ
formula bytes = codes "$" ++ (bytes ++ codes "$")

abbrev pub word_bytes : Cat → List ℕ → List ℕ
word_bytes category text =
    if is_tex_like category then formula (macro_bytes text)
    else if is_exp category then ident_bytes text else reserved_bytes text

abbrev pub kind_bytes : EntryKind → Cat → List ℕ → List ℕ
kind_bytes Ident category text = word_bytes category text
kind_bytes Roman category text = braced [] text
kind_bytes Typewriter category text = braced (codes "\\.") text
kind_bytes User category text = braced (codes "\\9") text

abbrev pub entry_bytes : Entry → List ℕ
entry_bytes entry = kind_bytes entry.kind entry.category entry.text

-- a section, underlined or not
abbrev pub number_bytes : Bool → List ℕ → List ℕ
number_bytes underlined number = if underlined then codes "\\[" ++ (number ++ codes "]") else number

abbrev pub section_bytes : List Section → SectionRef → List ℕ
section_bytes sections m =
    codes ", " ++ number_bytes m.underlined (section_number m.section (is_changed sections m.section))

-- a row is a line
abbrev pub row_bytes : List Section → IndexRow → List ℕ
row_bytes sections row =
    codes "\\I" ++ (entry_bytes row.entry ++ (flat_map (section_bytes sections) row.sections ++ codes ".\n"))

abbrev pub index_bytes : List Section → List Entry → List Occurrence → List ℕ
index_bytes sections names occurrences = flat_map (row_bytes sections) (index_rows names occurrences)
