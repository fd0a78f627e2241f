-- Worked rows: lines of the index, and the closing lines.
use Rattle.cw_index.proofs.Terms.{◌≡◌, ℕ, Bool, true, false, List, [], ◌∷◌, ◌++◌, None, codes, refl, Exp, RawInt}
use Rattle.cw_index.proofs.Terms.{EntryKind, Ident, Roman, Typewriter, User, Occurrence, Entry, Section, entry_bytes}
use Rattle.cw_index.proofs.Terms.{index_bytes, closing_lines}
use Rattle.std.specs.Fmt.{digits}
use Rattle.cw_names.specs.Words.{built_in_words}
use Rattle.cw_names.proofs.WordPlaces.{own, word}
use Rattle.cw_phase1.specs.declared.sections.Depth.TheVariants.{Zero}
use Rattle.cw_base.specs.Flags.{start_flags}

abbrev entry : EntryKind → List ℕ → Entry
entry kind text = record { kind = kind; text = text; category = Exp }

-- ## The index

word_rows : (entry_bytes (record { kind = Ident; text = codes "i_o"; category = RawInt }) ≡ codes "\\&{i\\_o}")
    × (entry_bytes (entry Ident (codes "EOF")) ≡ codes "\\.{EOF}")
word_rows = (refl, refl)

-- Texts of index codes are TeX's: they stay as they are.
codes_row : entry_bytes (entry Roman (codes "$x_1$")) ++ (entry_bytes (entry Typewriter (codes "a_b")) ++ entry_bytes
    (entry User (codes "z"))) ≡ codes "{$x_1$}\\.{a_b}\\9{z}"
codes_row = refl

abbrev at : ℕ → ℕ → Occurrence
at name section = record { name = record { index = name }; section = section; underlined = false }

abbrev defined_at : ℕ → ℕ → Occurrence
defined_at name section = record { name = record { index = name }; section = section; underlined = true }

abbrev section : Bool → Bool → Section
section starred changed = record {
  starred = starred;
  depth = Zero;
  tex = record { start = 0; «end» = 0 };
  definitions = record { start = 0; «end» = 0 };
  c_part = record { start = 0; «end» = 0 };
  name = None;
  changed = changed;
}

abbrev three : List Section
three = section true false ∷ section false true ∷ section false false ∷ []

-- the web's own names are these entries
abbrev index : List Entry → List Occurrence → List ℕ
index entries occurrences = index_bytes three (built_in_words ++ entries) occurrences

-- Sections ascend, each once, whatever the order of the occurrences; a changed one has its mark.
sections_row : index (entry Ident (codes "main") ∷ [])
    (at (own 0) 3 ∷ at (own 0) 1 ∷ at (own 0) 3 ∷ defined_at (own 0) 2 ∷ at (own 0) 2
    ∷ []) ≡ codes "\\I\\\\{main}, 1, \\[2\\*], 3.\n"
unfolding digits
sections_row = refl

-- An identifier of one byte has only the sections in which it is underlined; so has a built-in word, here `int`.
one_byte_row : index (entry Ident (codes "i") ∷ []) (at (own 0) 1 ∷ defined_at (own 0) 2 ∷ at (own 0) 3
    ∷ at (word "int") 1 ∷ defined_at (word "int") 3
    ∷ []) ≡ codes "\\I\\|i, \\[2\\*].\n\\I\\&{int}, \\[3].\n"
unfolding digits
one_byte_row = refl

-- A text of an index code that has one byte has all its sections.
one_byte_code_row : index (entry Roman (codes "i") ∷ []) (at (own 0) 1 ∷ []) ≡ codes "\\I{i}, 1.\n"
unfolding digits
one_byte_code_row = refl

-- Entries stand in their order, and one without sections is left out.
entries_row : index (entry Ident (codes "x1") ∷ entry Ident (codes "xa") ∷ entry Typewriter (codes "Xa") ∷ entry Ident
    (codes "q") ∷ entry Roman (codes "xa") ∷ []) (at (own 0) 1 ∷ at (own 1) 1 ∷ at (own 2) 1 ∷ at (own 3) 1
    ∷ at (own 4) 1 ∷ [])
    ≡ codes "\\I\\.{Xa}, 1.\n\\I\\\\{xa}, 1.\n\\I{xa}, 1.\n\\I\\\\{x1}, 1.\n"
unfolding digits
entries_row = refl

-- ## The closing lines

closing_rows : (closing_lines start_flags three ≡ codes "\\inx\n\\fin\n\\con\n")
    × (closing_lines start_flags (section false false ∷ []) ≡ codes "\\inx\n\\fin\n\\end\n")
    × (closing_lines (record start_flags { index = false }) three ≡ codes "\\end\n")
closing_rows = (refl, refl, refl)

-- With flag r the changed sections are listed before the index.
changes_row : closing_lines (record start_flags { ranged = true }) (section false true ∷ section false false ∷ section
    false true ∷ []) ≡ codes "\\ch 1\\*, 3\\*.\n\\inx\n\\fin\n\\end\n"
unfolding digits
changes_row = refl

no_changes_row : closing_lines (record start_flags { ranged = true }) (section false false ∷ [])
    ≡ codes "\\inx\n\\fin\n\\end\n"
no_changes_row = refl
