-- One more was done.
use Rattle.cw_logs.proofs.CheckTerms.{sym, ◌∙◌}
use Rattle.cw_logs.proofs.Prefixes.{seen-taken}
use Rattle.cw_logs.proofs.against.AgainstWatch.hear.Goals as goal

pub returns-then-is_next-clause-goes : goal.returns-then-is_next-clause-goes
returns-then-is_next-clause-goes c = λ e. seen-taken _ c.args.self.now (record
    { number = c.args.row.number; place = c.args.place }) c.self.view_is (sym c.is_next.ensures ∙ c.if-is_next.true)
