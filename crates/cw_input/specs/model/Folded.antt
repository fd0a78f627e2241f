-- The merged web by the fold over lines, as the code makes it.
use Rattle.std.specs.Prelude.{ℕ, false, List, Option, Some, None, option_and_then}
use Rattle.cw_base.specs.Web.{empty_web}
use Rattle.cw_desk.specs.Meaning.{NamedFiles}
use Rattle.cw_input.specs.model.Fold.{Over, MergeState, read, advance, fold_web_lines, fold_drained, fold_unmatched}
use Rattle.cw_input.specs.Lines.{file_lines}
use Rattle.cw_input.specs.Merged.{Merged, NoWeb, NoChange, TooLong, Whole, change_word, found_file, web_file}
use Rattle.cw_input.specs.Names.{change_name}
use Rattle.cw_input.specs.declared.found.InputFile.{InputFile}
use Rattle.cw_input.specs.declared.phase.Phase.TheVariants.{Outside}

abbrev pub start_state : MergeState
start_state = record { web = empty_web; sum = 0; mark = false; group = Over }

abbrev pub whole : Option MergeState → Merged
whole None = TooLong
whole (Some m) = Whole (fold_unmatched m).web

-- The lines of the web are taken, whatever the change file waits for; then what waits is handled. The web is file 0.
abbrev pub taken : NamedFiles → List ℕ → Option MergeState → Merged
taken named web m =
    whole (option_and_then (fold_drained named) (option_and_then (fold_web_lines named 10 (file_lines 0 web)) m))

-- The change file is file 1. It is handled up to its first match line before a line of the web is taken.
abbrev pub merge_change : NamedFiles → List ℕ → Option InputFile → MergeState → Merged
merge_change named web None m = NoChange
merge_change named web (Some change) m =
    taken named web (option_and_then
    (advance named Outside (record { file = 1; line = 0 }) (file_lines 1 change.bytes))
    (read change.name change.bytes m))

abbrev pub merge_with : NamedFiles → List ℕ → Option (List ℕ) → Option MergeState → Merged
merge_with named web change None = TooLong
merge_with named web None (Some m) = taken named web (Some m)
merge_with named web (Some word) (Some m) = merge_change named web (found_file named (change_name word)) m

abbrev pub merge_web : NamedFiles → Option InputFile → Option (List ℕ) → Merged
merge_web named None change = NoWeb
merge_web named (Some file) change = merge_with named file.bytes change (read file.name file.bytes start_state)

abbrev pub folded : NamedFiles → List ℕ → Option (List ℕ) → Merged
folded named web change = merge_web named (web_file named web) (change_word change)
