-- The output that would overwrite something decides.
use Rattle.std.proofs.Common.{ℕ, List, Option, ap, ◌∙◌, subst}
use Rattle.cw_base.specs.declared.exit.Exit.TheVariants.{Errors}
use Rattle.cw_input.specs.Overwriting.{first_overwriting, overwriting}
use Rattle.cw_run.specs.Emits.{RunsBy}
use Rattle.cw_run.specs.laws.EmitsLaws.{runs-by, runs_by-nothing}
use Rattle.cw_weave.specs.Woven.{weave_unless}
use Rattle.cw_weave.proofs.ExitLaws.{ok-real}
use Rattle.cw_weave.proofs.weave.weave_whole.Goals as goal

pub returns-in_err-outputs-clause-runs : goal.returns-in_err-outputs-clause-runs
returns-in_err-outputs-clause-runs g c =
    runs_by-nothing (weave_unless (overwriting c.args.source.web.now.files c.args.source.line.now)
    c.args.source.line.now c.args.source.web.now) (g.D.Desk.told c.args.desk.now) c.from_residual.ensures.1

pub returns-in-Some-clause-runs : goal.returns-in-Some-clause-runs
returns-in-Some-clause-runs g c =
    subst (λ (name : Option (List ℕ)).
    RunsBy (weave_unless name c.args.source.line.now c.args.source.web.now)
    (g.D.Desk.told c.args.desk.now) (g.D.Desk.told c.stop_before_overwriting.new.desk)
    c.stop_before_overwriting.result)
    ((rw c.in-Some.is at c.first_overwriting.ensures)
    ∙ ap (first_overwriting c.args.source.web.now.files) c.in_ok-outputs.ensures)
    (runs-by c.stop_before_overwriting.ensures)

pub returns-in-Some-clause-real : goal.returns-in-Some-clause-real
returns-in-Some-clause-real g c = ok-real c.stop_before_overwriting.result Errors (λ e. cc)
    c.stop_before_overwriting.ensures.exit

pub returns-clause-runs : goal.returns-clause-runs
returns-clause-runs g c =
    subst (λ (name : Option (List ℕ)).
    RunsBy (weave_unless name c.args.source.line.now c.args.source.web.now)
    (g.D.Desk.told c.args.desk.now) (g.D.Desk.told c.weave_web.new.desk) c.weave_web.result)
    ((rw c.in-None.is at c.first_overwriting.ensures)
    ∙ ap (first_overwriting c.args.source.web.now.files) c.in_ok-outputs.ensures)
    c.weave_web.ensures.runs
