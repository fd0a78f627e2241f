-- Outputs that would overwrite an input, or an output before them.
use Rattle.std.specs.Prelude.{ℕ, Bool, List, [], ◌∷◌, Option, Some, None, bytes_eq, if◌then◌else◌}
use Rattle.std.specs.List.{flat_map, list_any}
use Rattle.cw_desk.specs.Drafts.{draft_name}
use Rattle.cw_input.specs.declared.words.CommandLine.{CommandLine}
use Rattle.cw_input.specs.declared.words.OutputNames.{OutputNames}

abbrev pub is_among : List (List ℕ) → List ℕ → Bool
is_among names name = list_any (λ other. bytes_eq other name) names

-- The first of these outputs that has the name of a file that is taken, or of an output before it. Names are compared
-- as they are given.
abbrev pub first_overwriting : List (List ℕ) → List (List ℕ) → Option (List ℕ)
first_overwriting taken [] = None
first_overwriting taken (name ∷ names) =
    if is_among taken name then Some name else first_overwriting (name ∷ taken) names

-- the names under which an output is written: its own, and with flag k that of its draft
abbrev pub names_written : Bool → List ℕ → List (List ℕ)
names_written keep name = if keep then name ∷ draft_name name ∷ [] else name ∷ []

-- the outputs that a run makes: the TeX file, and with flag x the index and the list of section names
abbrev pub outputs_made : Bool → OutputNames → List (List ℕ)
outputs_made index outputs =
    if index then outputs.tex ∷ outputs.idx ∷ outputs.scn ∷ [] else outputs.tex ∷ []

-- all names under which a run writes
abbrev pub outputs_of : CommandLine → List (List ℕ)
outputs_of line = flat_map (names_written line.flags.keep) (outputs_made line.flags.index line.outputs)

-- The first output of a run that would overwrite one of its inputs, which are these files, or an output before it. A
-- draft counts as an output.
abbrev pub overwriting : List (List ℕ) → CommandLine → Option (List ℕ)
overwriting inputs line = first_overwriting inputs (outputs_of line)
