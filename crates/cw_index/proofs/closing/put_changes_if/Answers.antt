-- The line stands there where the flags ask for it.
use Rattle.cw_index.proofs.Terms.{◌∙◌, sym, prints-bytes, prints-none}
use Rattle.cw_index.proofs.ClosingLaws.{listed, unlisted}
use Rattle.cw_index.proofs.closing.put_changes_if.Goals as goal

pub returns-then-lists_changes : goal.returns-then-lists_changes
returns-then-lists_changes g c = prints-bytes (listed c.args.flags.now c.args.book.now.outline.sections
    (sym c.lists_changes.ensures ∙ c.if-lists_changes.true)) c.put_changes.ensures

pub returns : goal.returns
returns g c = prints-bytes (unlisted c.args.flags.now c.args.book.now.outline.sections (sym c.lists_changes.ensures
    ∙ c.if-lists_changes.false)) (prints-none _ _ _)
