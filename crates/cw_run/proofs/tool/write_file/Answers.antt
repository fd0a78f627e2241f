-- The bytes behind the making.
use Rattle.cw_base.specs.declared.event.Out.TheVariants.{Tex}
use Rattle.cw_base.specs.declared.exit.Exit.TheVariants.{Clean}
use Rattle.cw_desk.specs.Journal.{byte_events}
use Rattle.cw_run.specs.laws.EmitsLaws.{adds-emits, runs-fail, runs-stop, runs-then}
use Rattle.cw_run.proofs.tool.write_file.Goals as goal

pub returns-in_err-begin_file : goal.returns-in_err-begin_file
returns-in_err-begin_file g c = runs-stop (byte_events Tex (g.T.Tool.text c.args.source.now.web.now)) Clean
    c.in_err-begin_file.ensures.emits c.from_residual.ensures.1

pub returns-in_err-write : goal.returns-in_err-write
returns-in_err-write g c = runs-then c.in_ok-begin_file.ensures.emits
    (runs-fail Clean (adds-emits c.in_err-write.ensures) c.from_residual-in_err-write.ensures.1)
