-- The table covers the text, so the lines that it finds make up the text.
use Rattle.cw_base.proofs.Terms.{sym, ◌∙◌}
use Rattle.cw_base.proofs.WebLayoutLaws.{text_of-read_lines}
use Rattle.cw_base.proofs.web.Web.text.Goals as goal

pub returns-clause-lines : goal.returns-clause-lines
returns-clause-lines c = rw (← c.self.view_is) (c.as_slice.ensures.value
    ∙ sym (text_of-read_lines c.self.inside.text.items 0 c.self.inside.lines.items c.self.invariant.covers))
