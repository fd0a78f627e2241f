-- The table has an entry for each line.
use Rattle.cw_base.proofs.Terms.{sym, ◌∙◌}
use Rattle.cw_base.proofs.WebLayoutLaws.{length-read_lines}
use Rattle.cw_base.proofs.web.Web.line_count.Goals as goal

pub returns : goal.returns
returns c = rw (← c.self.view_is) (c.len.ensures ∙ c.self.inside.lines.ok.0
    ∙ sym (length-read_lines c.self.inside.text.items c.self.inside.lines.items))
