-- What was done over all files that agree was done over some, or none agree.
use Rattle.std.proofs.Common.{ap}
use Rattle.cw_desk.specs.model.File.{FileState}
use Rattle.cw_run.specs.Program.{words_of}
use Rattle.cw_run.specs.laws.ProgramLaws.{over-some}
use Rattle.cw_run.proofs.real_files.run_files.Goals as goal

pub returns-clause-some : goal.returns-clause-some
returns-clause-some g c =
    over-some (g.P.Program.run c.args.program.now (words_of c.args.line.now)) c.run_program.result.1.heard
    c.new_in.result.journal c.run_program.result.1.journal c.run_program.result.0
    (ap (λ (d : FileState). d.journal) c.new_in.ensures) c.run_program.ensures.done
    (c.agreement_law.ensures.some c.run_program.result.1.heard)
