-- All names are marked.
use Rattle.std.proofs.Common.{◌∙◌, ap, length, subst, sym}
use Rattle.cw_secnames.{specs.model.NameMarks.AreMarkedNames, proofs.Finding.length-named}
use Rattle.cw_secnames.proofs.sec_names.SecNames.near.Goals as goal

pub returns : goal.returns
returns c = c.in_ok-near.ensures c.args.self.now (sym (ap length c.self.view_is)
    ∙ length-named c.self.inside.names.items ∙ sym c.self.inside.names.ok.0 ∙ sym c.len.ensures)
    (subst (AreMarkedNames c.self.inside.marks 0) c.self.view_is c.self.invariant.marked)
