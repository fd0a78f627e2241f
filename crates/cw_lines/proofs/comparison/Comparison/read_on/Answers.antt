-- A file that has ended agrees with no byte more.
use Rattle.cw_lines.proofs.Terms.{◌≡◌, [], ap, sym, subst, ◌∙◌, Bool, OldFile, ahead-none, left-ended}
use Rattle.std.specs.Bool.{OnFalse}
use Rattle.cw_lines.proofs.comparison.Comparison.read_on.Goals as goal

pub returns-then-not-branch-clause-left : goal.returns-then-not-branch-clause-left
returns-then-not-branch-clause-left g c files is bytes some = sym (left-ended bytes c.args.self.now.agrees
    c.args.self.now.ahead ((g.D.Desk.told c.args.desk.now).rest files c.args.self.now.id) some
    (sym (ap (λ (o : OldFile). o.ahead) c.self.view_is) ∙ ahead-none c.self.inside.buffer c.self.inside.start
    c.self.inside.end c.if-self.false) (subst (λ (b : Bool). OnFalse b ((g.D.Desk.told c.args.desk.now).rest files
    c.args.self.now.id ≡ [])) c.if-not-branch.true (c.in_ok-fetch.ensures.none files is)))
