-- Drafts: what is written to keep an old file that would be the same goes to a file beside it.
use Rattle.std.specs.Prelude.{ℕ, List, ◌++◌, codes}

-- the name of the draft of a file
abbrev pub draft_name : List ℕ → List ℕ
draft_name name = name ++ codes ".new"
