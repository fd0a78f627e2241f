-- Worked rows: the limbo and the first section's head and TeX part of small webs.
use Rattle.cw_texpart.proofs.Terms.{◌≡◌, ℕ, Bool, false, true, List, [], ◌∷◌, codes, map, refl, Flags, Entry, Book}
use Rattle.cw_texpart.proofs.Terms.{Section, successor, limbo_bytes, tex_done, Setting, setting}
use Rattle.std.specs.Fmt.{digits}
use Rattle.cw_base.specs.{Flags.start_flags, Web.MergedLine, Web.text_of}
use Rattle.cw_phase1.specs.Book.{book}
use Rattle.cw_translator.specs.Translating.{translated}
use Rattle.cw_table.specs.{Normal.count, Normal.log, Normal.normal, NormalWalk.positions, Productions.productions}
use Rattle.cw_table.specs.{WalkCounts.looks}

abbrev line : Bool → List ℕ → MergedLine
line changed text = record { text = text; place = record { file = 0; line = 1 }; changed = changed }

abbrev web : List (List ℕ) → List MergedLine
web [] = []
web (text ∷ texts) = line false text ∷ web texts

abbrev first_tex : Setting → List Section → List Entry → List ℕ
first_tex s [] names = []
first_tex s (section ∷ sections) names = (tex_done s section names).out

abbrev tex_from : Flags → List MergedLine → Book → List ℕ
tex_from flags lines b = first_tex (setting (text_of lines) flags 1 b) b.outline.sections b.names

abbrev tex : List MergedLine → List ℕ
tex lines = tex_from start_flags lines (book lines)

-- the same with flag r
abbrev ranged_tex : List MergedLine → List ℕ
ranged_tex lines = tex_from (record start_flags { ranged = true }) lines (book lines)

abbrev limbo : List MergedLine → List ℕ
limbo lines = limbo_bytes (text_of lines) (book lines).outline.limbo

-- ## Limbo

-- Empty lines are copied; a line that holds only a code that prints nothing leaves none.
limbo_row : limbo (web (codes "% a@@b" ∷ codes "@l" ∷ codes "@q c@>" ∷ codes "" ∷ codes "@ A" ∷ []))
    ≡ codes "\\input cwebmac\n% a@b\n\\ATL\n\n"
limbo_row = refl

-- A format definition prints nothing, a bar is copied, and other codes drop their two bytes.
dropped_row : limbo (web (codes "a @s b int" ∷ codes "|c@<d@>@0" ∷ codes "@s e f" ∷ codes "g@ A" ∷ []))
    ≡ codes "\\input cwebmac\na \n|cd\ng\n"
dropped_row = refl

no_limbo_row : limbo (web (codes "@ A" ∷ [])) ≡ codes "\\input cwebmac\n"
no_limbo_row = refl

-- ## Heads

depth_row : tex (line true (codes "@*07 Deep.") ∷ []) ≡ codes "\\N{7}{1\\*}Deep.\n"
unfolding digits
depth_row = refl

-- with flag r depths are as the macros count them: `@**` is 0
raised_rows : map successor (codes "0" ∷ codes "7" ∷ codes "09" ∷ codes "199" ∷ codes "99" ∷ [])
    ≡ codes "1" ∷ codes "8" ∷ codes "10" ∷ codes "200" ∷ codes "100" ∷ []
raised_rows = refl

starred_rows : (ranged_tex (web (codes "@*07 Deep." ∷ [])) ≡ codes "\\N{8}{1}Deep.\n")
    × (ranged_tex (web (codes "@** Top." ∷ [])) ≡ codes "\\N{0}{1}Top.\n")
    × (tex (web (codes "@*Top." ∷ [])) ≡ codes "\\N{0}{1}Top.\n")
    × (tex (web (codes "@*000 Top." ∷ [])) ≡ codes "\\N{0}{1}Top.\n")
unfolding digits
starred_rows = (refl, refl, refl, refl)

-- Only one star is the depth.
text_rows : (tex (web (codes "@*** Part." ∷ [])) ≡ codes "\\N{-1}{1}* Part.\n")
    × (tex (line false (codes "@ A") ∷ line true (codes "b") ∷ []) ≡ codes "\\M{1\\*}A\nb\n")
unfolding digits
text_rows = (refl, refl)

-- ## TeX text

text_row : tex (web (codes "@ One." ∷ codes "" ∷ codes "Two @@." ∷ [])) ≡ codes "\\M{1}One.\n\nTwo @.\n"
unfolding digits
text_row = refl

-- The line's end behind a section code is that of a line that holds bytes.
bare_row : tex (web (codes "@" ∷ codes "" ∷ codes "A" ∷ [])) ≡ codes "\\M{1}\n\nA\n"
unfolding digits
bare_row = refl

entry_row : tex (web (codes "@ One" ∷ codes "@^two@>" ∷ codes "three." ∷ [])) ≡ codes "\\M{1}One\nthree.\n"
unfolding digits
entry_row = refl

-- No other code prints anything, whether it may stand there or not.
codes_row : tex (web (codes "@ A@^b@>@.c@>@:d@>@!@q e@>@0" ∷ codes "B@t f@>@=g@>@,@h@&@'@%@l" ∷ []))
    ≡ codes "\\M{1}A\nB\n"
unfolding digits
codes_row = refl

-- ## C texts in it

c_text_rows : (tex (web (codes "@ See |n|." ∷ [])) ≡ codes "\\M{1}See \\PB{\\|n}.\n")
    × (tex (web (codes "@ A||b" ∷ [])) ≡ codes "\\M{1}A\\PB{}b\n")
    × (tex (web (codes "@ See @<A@>." ∷ [])) ≡ codes "\\M{1}See \\PB{\\X0:A\\X}.\n")
    × (tex (web (codes "@ See @(a_b@>." ∷ [])) ≡ codes "\\M{1}See \\PB{\\X0:\\.{a\\_b}\\X}.\n")
unfolding digits translated normal log count positions looks productions
c_text_rows = (refl, refl, refl, refl)

-- A name that is ignored prints nothing.
ignored_row : tex (web (codes "@ See @<...@>." ∷ [])) ≡ codes "\\M{1}See .\n"
unfolding digits translated normal log count positions looks productions
ignored_row = refl

-- A C text that ends the TeX part, and one over two lines.
last_row : tex (web (codes "@ |a" ∷ codes "+b|" ∷ codes "@ B" ∷ [])) ≡ codes "\\M{1}\\PB{$\\|a+\\|b$}\n"
unfolding digits translated normal log count positions looks productions
last_row = refl
