-- Worked rows: the sections of small webs.
use Rattle.std.proofs.Common.{◌≡◌, ℕ, Bool, false, true, List, [], ◌∷◌, ◌++◌, codes, refl}
use Rattle.std.specs.Fmt.{digits}
use Rattle.cw_base.specs.{Flags.start_flags, Web.MergedLine, Web.text_of, declared.flags.Flags.Flags}
use Rattle.cw_phase1.specs.{Book.book, declared.book.Book.Book}
use Rattle.cw_press.specs.Texts.{setting}
use Rattle.cw_translator.specs.Translating.{translated}
use Rattle.cw_table.specs.{Normal.count, Normal.log, Normal.normal, NormalWalk.positions, Productions.productions}
use Rattle.cw_table.specs.{WalkCounts.looks}
use Rattle.cw_weave.specs.Sections.{sections_done}

abbrev line : Bool → List ℕ → MergedLine
line changed text = record { text = text; place = record { file = 0; line = 1 }; changed = changed }

abbrev web : List (List ℕ) → List MergedLine
web [] = []
web (text ∷ texts) = line false text ∷ web texts

abbrev woven_from : Flags → List MergedLine → Book → List ℕ
woven_from flags lines b = (sections_done (setting (text_of lines) flags 0 b) 1 b.outline.sections b.names).out

-- the sections of a web
abbrev woven : List MergedLine → List ℕ
woven lines = woven_from start_flags lines (book lines)

-- the same with flag r
abbrev ranged : List MergedLine → List ℕ
ranged lines = woven_from (record start_flags { ranged = true }) lines (book lines)

-- these lines, one after another
abbrev lines_of : List (List ℕ) → List ℕ
lines_of [] = []
lines_of (line ∷ lines) = line ++ codes "\n" ++ lines_of lines

-- ## Definitions

definition_rows
    : (woven (web (codes "@ A." ∷ codes "@d n 3" ∷ codes "@d m 4" ∷ codes "@f foo int" ∷ codes "@c foo x;" ∷ []))
    ≡ lines_of (codes "\\M{1}A." ∷ codes "\\Y\\B\\4\\D$\\|n$\\5\\T{3}\\par" ∷ codes "\\B\\4\\D$\\|m$\\5\\T{4}\\par"
    ∷ codes "\\B\\4\\F\\&{foo}\\5\\&{int}\\par" ∷ codes "\\Y\\B\\&{foo} \\|x;\\par" ∷ codes "\\fi" ∷ codes "" ∷ []))
    × (woven (web (codes "@ A." ∷ codes "@s foo int" ∷ codes "@d n 3" ∷ codes "@s bar int" ∷ []))
    ≡ lines_of (codes "\\M{1}A." ∷ codes "\\Y\\B\\4\\D$\\|n$\\5\\T{3}\\par" ∷ codes "\\fi" ∷ codes "" ∷ []))
unfolding digits translated normal log count positions looks productions
definition_rows = (refl, refl)

-- ## C parts

bare_rows : (woven (web (codes "@ A." ∷ codes "@c @^b@>" ∷ []))
    ≡ lines_of (codes "\\M{1}A." ∷ codes "\\fi" ∷ codes "" ∷ []))
    × (woven (web (codes "@ A." ∷ codes "@<B@>=" ∷ []))
    ≡ lines_of (codes "\\M{1}A." ∷ codes "\\Y\\B\\X1:B\\X${}\\E{}$\\par" ∷ codes "\\fi" ∷ codes "" ∷ []))
unfolding digits translated normal log count positions looks productions
bare_rows = (refl, refl)

-- ## Sections

several_row : woven (web (codes "@ @<A@>= x;" ∷ codes "@ See @<A@>." ∷ codes "@<A@>= y;" ∷ codes "@ @c @<A@>;" ∷ []))
    ≡ lines_of (codes "\\M{1}" ∷ codes "\\Y\\B\\X1:A\\X${}\\E{}$\\6" ∷ codes "\\|x;\\par" ∷ codes "\\A2."
    ∷ codes "\\Q2." ∷ codes "\\U3." ∷ codes "\\fi" ∷ codes "" ∷ codes "\\M{2}See \\PB{\\X1:A\\X}."
    ∷ codes "\\Y\\B\\X1:A\\X${}\\mathrel+\\E{}$\\6" ∷ codes "\\|y;\\par" ∷ codes "\\fi" ∷ codes "" ∷ codes "\\M{3}"
    ∷ codes "\\Y\\B\\X1:A\\X;\\par" ∷ codes "\\fi" ∷ codes "" ∷ [])
unfolding digits translated normal log count positions looks productions
several_row = refl

prefix_row : woven (web (codes "@ @<Read a@>= x;" ∷ codes "@ @<Read b@>= y;" ∷ codes "@ @c @<Read...@>;" ∷ []))
    ≡ lines_of (codes "\\M{1}" ∷ codes "\\Y\\B\\X1:Read a\\X${}\\E{}$\\6" ∷ codes "\\|x;\\par" ∷ codes "\\U3."
    ∷ codes "\\fi" ∷ codes "" ∷ codes "\\M{2}" ∷ codes "\\Y\\B\\X2:Read b\\X${}\\E{}$\\6" ∷ codes "\\|y;\\par"
    ∷ codes "\\fi" ∷ codes "" ∷ codes "\\M{3}" ∷ codes "\\Y\\B\\X1:Read a\\X;\\par" ∷ codes "\\fi" ∷ codes "" ∷ [])
unfolding digits translated normal log count positions looks productions
prefix_row = refl

changed_row : woven (line true (codes "@ @c @<A@>;") ∷ web (codes "@ @<A@>= x;" ∷ []))
    ≡ lines_of (codes "\\M{1\\*}" ∷ codes "\\Y\\B\\X2:A\\X;\\par" ∷ codes "\\fi" ∷ codes "" ∷ codes "\\M{2}"
    ∷ codes "\\Y\\B\\X2:A\\X${}\\E{}$\\6" ∷ codes "\\|x;\\par" ∷ codes "\\U1\\*." ∷ codes "\\fi" ∷ codes "" ∷ [])
unfolding digits translated normal log count positions looks productions
changed_row = refl

-- With flag r code stands beside the number of a section without prose, and elsewhere a name is one step to the left.
ranged_row : ranged (web (codes "@ @<A@>= x;" ∷ codes "@ See @<A@>." ∷ codes "@<A@>= y;" ∷ codes "@ @d n 3"
    ∷ codes "@c @<A@>;" ∷ [])) ≡ lines_of (codes "\\M{1}\\B\\X1:A\\X${}\\E{}$\\6" ∷ codes "\\|x;\\par" ∷ codes "\\A2."
    ∷ codes "\\Q2." ∷ codes "\\U3." ∷ codes "\\fi" ∷ codes "" ∷ codes "\\M{2}See \\PB{\\X1:A\\X}."
    ∷ codes "\\Y\\B\\4\\X1:A\\X${}\\mathrel+\\E{}$\\6" ∷ codes "\\|y;\\par" ∷ codes "\\fi" ∷ codes ""
    ∷ codes "\\M{3}\\B\\quad\\4\\D$\\|n$\\5\\T{3}\\par" ∷ codes "\\Y\\B\\X1:A\\X;\\par" ∷ codes "\\fi" ∷ codes "" ∷ [])
unfolding digits translated normal log count positions looks productions
ranged_row = refl

program_row : woven (web (codes "\\def\\title{Hello}" ∷ codes "@* Hello. This program greets |n| times."
    ∷ codes "@d n 3" ∷ codes "@c" ∷ codes "#include <stdio.h>" ∷ codes "int main(void)" ∷ codes "{" ∷ codes "  int i;"
    ∷ codes "  for (i=0;i<n;i++) @<Greet@>;" ∷ codes "  return 0;" ∷ codes "}" ∷ codes "@ Here it is."
    ∷ codes "@<Greet@>=" ∷ codes "printf(\"Hello\\n\"); /* |i| is unused */" ∷ []))
    ≡ lines_of (codes "\\N{0}{1}Hello. This program greets \\PB{\\|n} times."
    ∷ codes "\\Y\\B\\4\\D$\\|n$\\5\\T{3}\\par" ∷ codes "\\Y\\B\\8\\#\\&{include} \\.{<stdio.h>}\\7"
    ∷ codes "\\1\\1\\&{int} \\\\{main}(\\&{void})\\2\\2\\6" ∷ codes "${}\\{\\1{}$\\6" ∷ codes "\\&{int} \\|i;\\7"
    ∷ codes "\\&{for} ${}(\\|i\\K\\T{0};{}$ ${}\\|i<\\|n;{}$ ${}\\|i\\PP){}$\\1\\5\\X2:Greet\\X;\\2\\6"
    ∷ codes "\\&{return} \\T{0};\\6" ∷ codes "\\4${}\\}\\2{}$\\par" ∷ codes "\\fi" ∷ codes ""
    ∷ codes "\\M{2}Here it is." ∷ codes "\\Y\\B\\X2:Greet\\X${}\\E{}$\\6"
    ∷ codes "\\\\{printf}(\\.{\"Hello\\\\n\"});\\C{ \\PB{\\|i} is unused }\\par" ∷ codes "\\U1." ∷ codes "\\fi"
    ∷ codes "" ∷ [])
unfolding digits translated normal log count positions looks productions
program_row = refl
