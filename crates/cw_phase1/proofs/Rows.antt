-- Worked webs: the book that the first phase makes of each.
use Rattle.cw_phase1.proofs.Terms.{◌≡◌, ℕ, ◌+◌, Bool, true, false, List, [], ◌∷◌, Option, Some, None, codes, length}
use Rattle.cw_phase1.proofs.Terms.{drop, refl, Cat, Exp, RawInt, NoteKind, Span, MergedLine, EntryKind, Ident, Roman}
use Rattle.cw_phase1.proofs.Terms.{built_in_words, SecKind, SecName, id, NameUse, option_map, Section, span, book}
use Rattle.cw_base.specs.declared.notes.Note.{Note}
use Rattle.cw_names.specs.{Names.Entry, declared.xrefs.Occurrence.Occurrence}
use Rattle.cw_names.proofs.WordPlaces.{own, word}
use Rattle.cw_secnames.specs.declared.kinds.SecKind.TheVariants.{Named, File}
use Rattle.cw_phase1.specs.{declared.sections.Depth.Depth, declared.sections.Depth.TheVariants.Zero}
use Rattle.cw_phase1.specs.{declared.book.Book.Book}
use Rattle.cw_base.specs.declared.notes.NoteKind.TheVariants as notes

abbrev lines_from : ℕ → List (List ℕ) → List MergedLine
lines_from n [] = []
lines_from n (text ∷ texts) =
    record { text = text; place = record { file = 0; line = n }; changed = false } ∷ lines_from (n + 1) texts

abbrev web : List (List ℕ) → List MergedLine
web texts = lines_from 1 texts

abbrev line : List ℕ → ℕ → ℕ → Bool → MergedLine
line text file n changed = record { text = text; place = record { file = file; line = n }; changed = changed }

abbrev section : Bool → Depth → Span → Span → Span → Option ℕ → Bool → Section
section starred depth tex definitions c_part name changed = record {
  starred = starred;
  depth = depth;
  tex = tex;
  definitions = definitions;
  c_part = c_part;
  name = option_map id name;
  changed = changed;
}

abbrev entry : EntryKind → List ℕ → Cat → Entry
entry kind text category = record { kind = kind; text = text; category = category }

abbrev occ : ℕ → ℕ → Bool → Occurrence
occ name section underlined = record { name = record { index = name }; section = section; underlined = underlined }

abbrev sec_name : SecKind → List ℕ → Bool → List ℕ → List ℕ → List ℕ → SecName
sec_name kind text complete defined used cited =
    record { kind = kind; text = text; complete = complete; defined = defined; used = used; cited = cited }

abbrev note : NoteKind → ℕ → ℕ → ℕ → Note
note kind value file line = record { kind = kind; value = value; place = record { file = file; line = line } }

abbrev at : ℕ → ℕ → NameUse
at place name = record { place = place; name = name }

-- a book, without the built-in words
record Shown : Type 0 where
  limbo : Span
  sections : List Section
  names : List Entry
  occurrences : List Occurrence
  section_names : List SecName
  name_uses : List NameUse
  notes : List Note

abbrev shown_book : Book → Shown
shown_book b = record {
  limbo = b.outline.limbo;
  sections = b.outline.sections;
  names = drop (length built_in_words) b.names;
  occurrences = b.xrefs;
  section_names = b.sec_names;
  name_uses = b.name_uses;
  notes = b.outline.notes;
}

abbrev shown : List MergedLine → Shown
shown lines = shown_book (book lines)

a_prefix_of_two_names : shown (web ((codes "@ @<Read a@>= x;") ∷ (codes "@ @<Read b@>= y;")
    ∷ (codes "@ @c @<Read...@>;") ∷ [])) ≡ record {
      limbo = span 0 0;
      sections = section false Zero (span 2 2) (span 2 2) (span 2 17) (Some 0) false ∷ section false Zero (span 19 19)
          (span 19 19) (span 19 34) (Some 1) false ∷ section false Zero (span 36 36) (span 36 36) (span 36 52) None
          false
          ∷ [];
      names = entry Ident (codes "x") Exp ∷ entry Ident (codes "y") Exp ∷ [];
      occurrences = occ (own 0) 1 false ∷ occ (own 1) 2 false ∷ [];
      section_names = sec_name Named (codes "Read a") true (1 ∷ []) (3 ∷ []) ([]) ∷ sec_name Named (codes "Read b") true
          (2 ∷ []) ([]) ([]) ∷ [];
      name_uses = at 2 0 ∷ at 19 1 ∷ at 39 0 ∷ [];
      notes = note notes.AmbiguousPrefix 0 0 3 ∷ note notes.NeverUsed 1 0 0 ∷ [];
    }
a_prefix_of_two_names = refl

two_parts : shown (web ((codes "@ @c int i;") ∷ (codes "@ @c i=i+1;") ∷ [])) ≡ record {
  limbo = span 0 0;
  sections = section false Zero (span 2 2) (span 2 2) (span 2 12) None false ∷ section false Zero (span 14 14)
      (span 14 14) (span 14 24) None false ∷ [];
  names = entry Ident (codes "i") Exp ∷ [];
  occurrences = occ (word "int") 1 false ∷ occ (own 0) 1 false ∷ occ (own 0) 2 false ∷ occ (own 0) 2 false ∷ [];
  section_names = [];
  name_uses = [];
  notes = [];
}
two_parts = refl

a_format_definition : shown (web ((codes "@ @f foo int") ∷ (codes "@c foo x;") ∷ [])) ≡ record {
  limbo = span 0 0;
  sections = section false Zero (span 2 2) (span 2 13) (span 13 23) None false ∷ [];
  names = entry Ident (codes "foo") RawInt ∷ entry Ident (codes "x") Exp ∷ [];
  occurrences = occ (own 0) 1 false ∷ occ (word "int") 1 false ∷ occ (own 0) 1 false ∷ occ (own 1) 1 false ∷ [];
  section_names = [];
  name_uses = [];
  notes = [];
}
a_format_definition = refl

a_conflict : shown (web ((codes "@ @<Read@>= x;") ∷ (codes "@ @<Read b@>= y;") ∷ [])) ≡ record {
  limbo = span 0 0;
  sections = section false Zero (span 2 2) (span 2 2) (span 2 15) (Some 0) false ∷ section false Zero (span 17 17)
      (span 17 17) (span 17 32) (Some 0) false ∷ [];
  names = entry Ident (codes "x") Exp ∷ entry Ident (codes "y") Exp ∷ [];
  occurrences = occ (own 0) 1 false ∷ occ (own 1) 2 false ∷ [];
  section_names = sec_name Named (codes "Read") true (1 ∷ 2 ∷ []) ([]) ([]) ∷ [];
  name_uses = at 2 0 ∷ at 17 0 ∷ [];
  notes = note notes.NameConflict 0 0 2 ∷ note notes.NeverUsed 0 0 0 ∷ [];
}
a_conflict = refl

an_ordinary_web : shown (web ((92 ∷ 100 ∷ 101 ∷ 102 ∷ 92 ∷ 116 ∷ 105 ∷ 116 ∷ 108 ∷ 101 ∷ 123 ∷ 72 ∷ 101 ∷ 108 ∷ 108
    ∷ 111 ∷ 125 ∷ []) ∷ (codes "@* Hello. This program greets |n| times.") ∷ (codes "@d n 3") ∷ (codes "@c")
    ∷ (codes "#include <stdio.h>") ∷ (codes "int main(void)") ∷ (codes "{") ∷ (codes "  int i;")
    ∷ (codes "  for (i=0;i<n;i++) @<Greet@>;") ∷ (codes "  return 0;") ∷ (codes "}") ∷ (codes "@ Here it is.")
    ∷ (codes "@<Greet@>=") ∷ (112 ∷ 114 ∷ 105 ∷ 110 ∷ 116 ∷ 102 ∷ 40 ∷ 34 ∷ 72 ∷ 101 ∷ 108 ∷ 108 ∷ 111 ∷ 92 ∷ 110 ∷ 34
    ∷ 41 ∷ 59 ∷ 32 ∷ 47 ∷ 42 ∷ 32 ∷ 124 ∷ 105 ∷ 124 ∷ 32 ∷ 105 ∷ 115 ∷ 32 ∷ 117 ∷ 110 ∷ 117 ∷ 115 ∷ 101 ∷ 100 ∷ 32 ∷ 42
    ∷ 47 ∷ []) ∷ [])) ≡ record {
      limbo = span 0 18;
      sections = section true Zero (span 21 59) (span 59 66) (span 66 159) None false
          ∷ section false Zero (span 161 173)
          (span 173 173) (span 173 223) (Some 0) false ∷ [];
      names = entry Ident (codes "n") Exp ∷ entry Ident (codes "main") Exp ∷ entry Ident (codes "i") Exp
          ∷ entry Ident (codes "printf") Exp ∷ [];
      occurrences = occ (own 0) 1 false ∷ occ (own 0) 1 true ∷ occ (word "include") 1 false
          ∷ occ (word "int") 1 false ∷ occ (own 1) 1 false ∷ occ (word "void") 1 false
          ∷ occ (word "int") 1 false ∷ occ (own 2) 1 false ∷ occ (word "for") 1 false ∷ occ (own 2) 1 false
          ∷ occ (own 2) 1 false ∷ occ (own 0) 1 false ∷ occ (own 2) 1 false ∷ occ (word "return") 1 false
          ∷ occ (own 3) 2 false ∷ occ (own 2) 2 false ∷ [];
      section_names = sec_name Named (codes "Greet") true (2 ∷ []) (1 ∷ []) ([]) ∷ [];
      name_uses = at 134 0 ∷ at 173 0 ∷ [];
      notes = [];
    }
an_ordinary_web = refl

adjacent_and_apart : shown (web ((codes "@ @d f(a,...)a") ∷ (codes "@d g (a)") ∷ (codes "@d h(1") ∷ (codes "@f b")
    ∷ (codes "@!c@d@!k") ∷ (codes "@s x@!y int @^e@@x@>") ∷ [])) ≡ record {
      limbo = span 0 0;
      sections = section false Zero (span 2 2) (span 2 66) (span 66 66) None false ∷ [];
      names = entry Ident (codes "f") Exp ∷ entry Ident (codes "a") Exp ∷ entry Ident (codes "g") Exp
          ∷ entry Ident (codes "h") Exp ∷ entry Ident (codes "b") Exp ∷ entry Ident (codes "c") Exp
          ∷ entry Ident (codes "k") Exp ∷ entry Ident (codes "x") Exp ∷ entry Ident (codes "y") Exp
          ∷ entry Roman (codes "e@x") Exp ∷ [];
      occurrences = occ (own 0) 1 true ∷ occ (own 1) 1 false ∷ occ (own 1) 1 false ∷ occ (own 2) 1 true
          ∷ occ (own 1) 1 false ∷ occ (own 3) 1 true ∷ occ (own 4) 1 false
          ∷ occ (own 5) 1 true ∷ occ (own 6) 1 true ∷ occ (own 8) 1 true
          ∷ occ (word "int") 1 false ∷ occ (own 9) 1 false ∷ [];
      section_names = [];
      name_uses = [];
      notes = note notes.ImproperMacro 0 0 3 ∷ note notes.ImproperFormat 0 0 4 ∷ note notes.ImproperMacro 0 0 5
          ∷ note notes.ImproperFormat 0 0 6 ∷ [];
    }
adjacent_and_apart = refl

the_order_of_notes : shown (web ((codes "@ @<Read@>=") ∷ (codes "@c @<Read @^b") ∷ (codes "@ @<@>@<Wr...@>@(Read@>")
    ∷ [])) ≡ record {
      limbo = span 0 0;
      sections = section false Zero (span 2 2) (span 2 2) (span 2 26) (Some 0) false ∷ section false Zero (span 28 50)
          (span 50 50) (span 50 50) None false ∷ [];
      names = [];
      occurrences = [];
      section_names = sec_name Named (codes "Read") true (1 ∷ []) (1 ∷ []) ([]) ∷ sec_name Named (codes "Wr") false ([])
          ([]) (2 ∷ []) ∷ sec_name File (codes "Read") true ([]) ([]) (2 ∷ []) ∷ [];
      name_uses = at 2 0 ∷ at 15 0 ∷ at 32 1 ∷ at 41 2 ∷ [];
      notes = note notes.CodeInCText 0 0 2 ∷ note notes.NameUnended 0 0 2 ∷ note notes.NameConflict 0 0 2
          ∷ note notes.CodeInName 0 0 2 ∷ note notes.NameEmpty 0 0 3 ∷ note notes.NameIncomplete 1 0 0
          ∷ note notes.NeverDefined 2 0 0 ∷ [];
    }
the_order_of_notes = refl

-- ## An ignored name, an underline that waits, and the order of format definitions

an_ignored_name_at_the_head : shown (web ((codes "@ @<") ∷ (codes "...@>=x;") ∷ [])) ≡ record {
  limbo = span 0 0;
  sections = section false Zero (span 2 2) (span 2 2) (span 2 14) None false ∷ [];
  names = entry Ident (codes "x") Exp ∷ [];
  occurrences = occ (own 0) 1 false ∷ [];
  section_names = [];
  name_uses = [];
  notes = note notes.NameEmpty 0 0 1 ∷ [];
}
an_ignored_name_at_the_head = refl

an_underline_waits : (book (web ((codes "@ @!@<Read@>") ∷ (codes "@ @c x;x;") ∷ []))).xrefs
    ≡ occ (own 0) 2 true ∷ occ (own 0) 2 false ∷ []
an_underline_waits = refl

formats_in_order : (shown
    (web ((codes "@ @f a b") ∷ (codes "@f b int") ∷ (codes "@f c b") ∷ (codes "@f d 1 int") ∷ []))).names ≡ entry Ident
    (codes "a") Exp ∷ entry Ident (codes "b") RawInt ∷ entry Ident (codes "c") RawInt ∷ entry Ident (codes "d") Exp ∷ []
formats_in_order = refl

-- ## Notes one by one, with their places

abbrev notes_in : List (List ℕ) → List Note
notes_in texts = (book (web texts)).outline.notes

a_code_in_a_name : notes_in ((codes "@ @<Read") ∷ (codes "all @^of it@>= x;") ∷ (codes "@ @c @<Read all of it@>;") ∷ [])
    ≡ note notes.CodeInName 0 0 2 ∷ []
a_code_in_a_name = refl

a_code_in_an_ambiguous_name : notes_in ((codes "@ @<Read a@>= x;") ∷ (codes "@ @<Read b@>= y;")
    ∷ (codes "@ @c @<Read a@>; @<Read b@>; @<Read") ∷ (codes "@^ ...@>;") ∷ [])
    ≡ note notes.AmbiguousPrefix 0 0 3 ∷ note notes.CodeInName 0 0 4 ∷ []
a_code_in_an_ambiguous_name = refl

a_name_that_a_section_ends : notes_in ((codes "@ @<Read a@>= x;") ∷ (codes "@ @<Read b@>= y;")
    ∷ (codes "@ @c @<Read a@>; @<Read b@>;") ∷ (codes "@<Re@^ad...") ∷ (codes "@ @<Read a@>.") ∷ [])
    ≡ note notes.NameUnended 0 0 4 ∷ note notes.AmbiguousPrefix 0 0 4 ∷ note notes.CodeInName 0 0 4 ∷ []
a_name_that_a_section_ends = refl

improper_heads : notes_in ((codes "@ @d") ∷ (codes "1") ∷ (codes "@f a") ∷ (codes "1") ∷ (codes "@s") ∷ (codes "b 2")
    ∷ []) ≡ note notes.ImproperMacro 0 0 1 ∷ note notes.ImproperFormat 0 0 3 ∷ note notes.ImproperFormat 0 0 5 ∷ []
improper_heads = refl

an_incomplete_name : notes_in ((codes "@ @c @<Re...@>;") ∷ []) ≡ note notes.NameIncomplete 0 0 0 ∷ []
an_incomplete_name = refl

an_undefined_name : notes_in ((codes "@ @c @<Read@>;") ∷ []) ≡ note notes.NeverDefined 0 0 0 ∷ []
an_undefined_name = refl

an_unused_name : notes_in ((codes "@ @<Read@>= x;") ∷ []) ≡ note notes.NeverUsed 0 0 0 ∷ []
an_unused_name = refl

a_cited_name : notes_in ((codes "@ See @<Read@>.") ∷ []) ≡ note notes.NeverDefined 0 0 0 ∷ note notes.NeverUsed 0 0 0
    ∷ []
a_cited_name = refl

-- a `=` seems to be missing behind a name that stands alone on its line; blanks and the section code don't count
a_missing_equals_sign : notes_in ((codes "@ Text.") ∷ (codes "  @<Read@>") ∷ (codes "x=1;") ∷ [])
    ≡ note notes.EqualsMissing 0 0 2 ∷ note notes.NeverDefined 0 0 0 ∷ note notes.NeverUsed 0 0 0 ∷ []
a_missing_equals_sign = refl

a_missing_equals_sign_behind_the_code : notes_in ((codes "@ @<Read@>") ∷ (codes "x=1;") ∷ [])
    ≡ note notes.EqualsMissing 0 0 1 ∷ note notes.NeverDefined 0 0 0 ∷ note notes.NeverUsed 0 0 0 ∷ []
a_missing_equals_sign_behind_the_code = refl

-- behind a name that didn't end none is missing
a_name_that_did_not_end : notes_in ((codes "@ Text.") ∷ (codes "@<Read") ∷ (codes "x=1;") ∷ (codes "@ More.") ∷ [])
    ≡ note notes.NameUnended 0 0 2 ∷ note notes.NeverDefined 0 0 0 ∷ note notes.NeverUsed 0 0 0 ∷ []
a_name_that_did_not_end = refl

-- none is missing between bars, behind a name that has a definition, and in a section with a C part
a_name_between_bars : notes_in ((codes "@ The text |") ∷ (codes "@<Read@>") ∷ (codes "| is read.") ∷ [])
    ≡ note notes.NeverDefined 0 0 0 ∷ note notes.NeverUsed 0 0 0 ∷ []
a_name_between_bars = refl

a_name_that_is_defined_elsewhere : notes_in ((codes "@ See") ∷ (codes "@<Read@>") ∷ (codes "@ @<Read@>= x;") ∷ [])
    ≡ note notes.NeverUsed 0 0 0 ∷ []
a_name_that_is_defined_elsewhere = refl

a_name_before_a_c_part : notes_in ((codes "@ See") ∷ (codes "@<Read@>") ∷ (codes "@c x;") ∷ [])
    ≡ note notes.NeverDefined 0 0 0 ∷ note notes.NeverUsed 0 0 0 ∷ []
a_name_before_a_c_part = refl

a_file : notes_in ((codes "@ @(a.c@>= x;") ∷ []) ≡ []
a_file = refl
