-- None of the files so far has the name, so one of those that are left has it exactly where one of all has.
use Rattle.cw_base.proofs.Terms.{◌≡◌, drop, bytes_eq, list_any}
use Rattle.cw_base.proofs.web.Web.has_file.Given as goal

abbrev pub invariant-loop-file : goal.invariant-loop-file
invariant-loop-file l = list_any (λ file. bytes_eq file l.name) (drop l.file-index l.self.files)
    ≡ list_any (λ file. bytes_eq file l.name) l.self.files
