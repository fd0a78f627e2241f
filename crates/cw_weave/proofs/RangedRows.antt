-- Worked webs with flag r: what each run writes, and how it ends.
use Rattle.cw_weave.proofs.Terms.{◌≡◌, refl, [], ◌∷◌, codes, Made, Tex, byte_events, woven}
use Rattle.std.specs.Fmt.{digits}
use Rattle.cw_input.specs.Merge.{new_lines, web_lines}
use Rattle.cw_lines.specs.Cut.{cut_behind, divide}
use Rattle.cw_translator.specs.Translating.{translated}
use Rattle.cw_table.specs.{Normal.normal, Normal.log, Normal.count, NormalWalk.positions, Productions.productions}
use Rattle.cw_table.specs.{WalkCounts.looks}
use Rattle.cw_run.specs.Saying.{says}
use Rattle.cw_weave.proofs.Rows.{ends_clean, foo_w, lines}

ranged_depths : woven (codes "foo" ∷ codes "-bphx" ∷ codes "+r" ∷ []) (foo_w (codes "@** A." ∷ codes "@* B."
    ∷ codes "@*1 C." ∷ codes "@*09 D." ∷ [])) ≡ ends_clean (Made Tex (codes "foo.tex") ∷ byte_events Tex
    (lines (codes "\\input cwebmac" ∷ codes "\\N{0}{1}A." ∷ codes "\\fi" ∷ [] ∷ codes "\\N{1}{2}B." ∷ codes "\\fi" ∷ []
    ∷ codes "\\N{2}{3}C." ∷ codes "\\fi" ∷ [] ∷ codes "\\N{10}{4}D." ∷ codes "\\fi" ∷ [] ∷ codes "\\end" ∷ [])))
unfolding digits cut_behind divide new_lines web_lines says translated normal log count positions looks productions
ranged_depths = refl

code_beside_its_number : woven (codes "foo" ∷ codes "-bphx" ∷ codes "+r" ∷ [])
    (foo_w (codes "@ @<Read@>=" ∷ codes "a;" ∷ codes "@ @d x 1" ∷ codes "@d y 2" ∷ codes "@c @<Read@>;" ∷ codes "@"
    ∷ codes "@c b;" ∷ codes "@ Text." ∷ codes "@<Read@>=" ∷ codes "c;" ∷ []))
    ≡ ends_clean (Made Tex (codes "foo.tex") ∷ byte_events Tex (lines (codes "\\input cwebmac"
    ∷ codes "\\M{1}\\B\\X1:Read\\X${}\\E{}$\\6" ∷ codes "\\|a;\\par" ∷ codes "\\A4." ∷ codes "\\U2." ∷ codes "\\fi" ∷ []
    ∷ codes "\\M{2}\\B\\quad\\4\\D$\\|x$\\5\\T{1}\\par" ∷ codes "\\B\\4\\D$\\|y$\\5\\T{2}\\par"
    ∷ codes "\\Y\\B\\X1:Read\\X;\\par" ∷ codes "\\fi" ∷ [] ∷ codes "\\M{3}" ∷ codes "\\Y\\B\\|b;\\par" ∷ codes "\\fi"
    ∷ [] ∷ codes "\\M{4}Text." ∷ codes "\\Y\\B\\4\\X1:Read\\X${}\\mathrel+\\E{}$\\6" ∷ codes "\\|c;\\par" ∷ codes "\\fi"
    ∷ [] ∷ codes "\\end" ∷ [])))
unfolding digits cut_behind divide new_lines web_lines says translated normal log count positions looks productions
code_beside_its_number = refl
