-- The sample: a web of so many sections that is made in memory.
use Rattle.std.specs.Prelude.{ℕ, zero, suc, ◌-◌, ◌*◌, false, List, [], ◌∷◌, ◌++◌, codes, decimal}
use Rattle.cw_base.specs.Web.{MergedLine, WebState}

-- the first line of section k, the head of its C part, and its one statement
abbrev pub first_text : ℕ → List ℕ
first_text k = codes "@ Section " ++ decimal k ++ codes " adds."

abbrev pub head_line : ℕ → List ℕ
head_line k = codes "@<Step " ++ decimal k ++ codes ".@>="

abbrev pub statement_text : ℕ → List ℕ
statement_text k =
    codes "if (a>" ++ decimal k ++ codes ") { b+=" ++ decimal k ++ codes "; c(" ++ decimal k
    ++ codes ",a); } else while (b) b--;"

abbrev pub line_of : ℕ → List ℕ → MergedLine
line_of number text = record { text = text; place = record { file = 0; line = number }; changed = false }

abbrev pub section_lines : ℕ → List MergedLine
section_lines k =
    line_of (3 * k - 2) (first_text k) ∷ line_of (3 * k - 1) (head_line k) ∷ line_of (3 * k) (statement_text k) ∷ []

-- the sections from 1 to n
abbrev pub sample_lines : ℕ → List MergedLine
sample_lines zero = []
sample_lines (suc n) = sample_lines n ++ section_lines (suc n)

-- the web, whose one file has a name that is never told
abbrev pub sample_web : ℕ → WebState
sample_web n = record { lines = sample_lines n; files = codes "sample" ∷ []; notes = [] }
