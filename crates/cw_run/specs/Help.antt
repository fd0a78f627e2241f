-- What `--help` prints: the words, the letters with what each turns, and the statuses.
use Rattle.std.specs.Prelude.{ℕ, List, [], ◌∷◌, codes}
use Rattle.std.specs.List.{join_with_byte}
use Rattle.cw_base.specs.Bytes.{newline}

abbrev pub help_lines : List (List ℕ)
help_lines =
    codes "Usage: cweave [options] webfile[.w] [{changefile[.ch]|-} [outfile[.tex]]]" ∷
    codes "  webfile     the web; without an extension webfile.w, else webfile.web" ∷
    codes "  changefile  changes of the web, - for none" ∷
    codes "  outfile     the TeX file; index and list of section names lie beside it" ∷
    codes "Options stand anywhere; letters behind - turn off, behind + turn on:" ∷
    codes "  b  print the banner (on at the start, as all but s, k and r)" ∷
    codes "  p  print progress lines" ∷
    codes "  h  print the happy message" ∷
    codes "  f  separate statements by forced breaks" ∷
    codes "  e  wrap inner C text in \\PB{..}" ∷
    codes "  i  indent parameter declarations of functions" ∷
    codes "  o  separate declarations from statements by a big break" ∷
    codes "  x  write the index and the list of section names" ∷
    codes "  s  print statistics" ∷
    codes "  k  keep an output that has not changed as it is" ∷
    codes "  r  range pages as the original does" ∷
    codes "--quiet is -bph, --verbose is +bph. On a line of their own:" ∷
    codes "  --sample N  print the statistics of a sample of N sections, 1 to 2000" ∷
    codes "  --help      print this text" ∷
    codes "  --version   print the banner" ∷
    codes "Status: 0 no errors, 1 errors in the web or in these words," ∷
    codes "2 a device failed, 3 memory ran out." ∷ []

-- its lines, with a newline between them
abbrev pub help_text : List ℕ
help_text = join_with_byte newline help_lines
