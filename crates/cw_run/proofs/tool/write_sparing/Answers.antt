-- The file has the name of an input.
use Rattle.std.proofs.Common.{◌≡◌, ℕ, List, [], ◌∷◌, ◌++◌, Option, Some, ap, ◌∙◌}
use Rattle.cw_input.specs.Overwriting.{first_overwriting}
use Rattle.cw_run.specs.laws.EmitsLaws.{runs-known}
use Rattle.cw_run.specs.Tool.{made_unless}
use Rattle.cw_run.proofs.tool.write_sparing.Goals as goal

pub returns-in-Some : goal.returns-in-Some
returns-in-Some g c =
    let files : List (List ℕ) = c.args.source.now.web.now.files in
    let out : List ℕ = c.args.source.now.out.now in
    let one : c.push.new.self ≡ out ∷ [] =
    c.in_ok-push.ensures.ok ∙ ap (λ (names : List (List ℕ)). names ++ out ∷ []) c.new_in-outputs.ensures in
    let first : Some c.in-Some.name.now ≡ first_overwriting files (out ∷ []) =
    (rw c.in-Some.is at c.first_overwriting.ensures) ∙ ap (first_overwriting files) one in
    runs-known (ap (λ (found : Option (List ℕ)). made_unless found out (g.T.Tool.text c.args.source.now.web.now)) first)
    c.refuse_word.ensures.runs
