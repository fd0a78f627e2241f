-- So many sections stand in the web.
use Rattle.std.proofs.Common.{◌≡◌}
use Rattle.cw_weave.specs.SampleWeb.{sample_web}
use Rattle.cw_weave.proofs.sample_sections.sample_web.Given as goal

abbrev pub invariant-loop-before : goal.invariant-loop-before
invariant-loop-before l = l.web ≡ sample_web l.before
