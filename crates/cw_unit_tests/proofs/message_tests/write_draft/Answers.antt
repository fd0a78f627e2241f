-- What is put to the lines of a draft leaves the draft and its old file.
use Rattle.std.proofs.Common.{IsTrue, subst, sym}
use Rattle.cw_base.specs.declared.event.Out.TheVariants.{Idx}
use Rattle.cw_desk.specs.Meaning.{has_draft}
use Rattle.cw_desk.specs.declared.outputs.Outputs.{Outputs}
use Rattle.cw_lines.specs.laws.WritesLaws.{can-after}
use Rattle.cw_unit_tests.proofs.message_tests.write_draft.Goals as goal

pub end_file-requires : goal.end_file-requires
end_file-requires c = record {
  opened = (can-after c.in_ok-lines.ensures.begun.can c.in_ok-put_all.ensures.puts).old_file;
  draft = λ asked. subst (λ (outputs : Outputs). IsTrue (has_draft outputs Idx))
      (sym c.in_ok-put_all.ensures.puts.writes.adds.same.same_outputs)
      (c.in_ok-lines.ensures.begun.draft asked);
}
