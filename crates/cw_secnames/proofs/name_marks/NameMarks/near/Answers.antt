-- The names near a text are found by their marks; where these were given back, all positions are there.
use Rattle.std.proofs.Common.{◌<◌, ◌∙◌, length, subst, zero-add}
use Rattle.cw_secnames.proofs.{NamedMarks.all-near, Nearest.holds}
use Rattle.cw_secnames.proofs.name_marks.NameMarks.near.Goals as goal

pub returns-then-not-self : goal.returns-then-not-self
returns-then-not-self c = λ names size marked. all-near c.in_ok-all.all.items c.args.kind c.args.text.now 0 names
    (λ j low. c.in_ok-all.ensures j (subst (λ n. j < n) (zero-add (length names) ∙ size) low))

pub returns : goal.returns
returns c = λ names size marked. holds c.args.self.now.marks c.in_ok-near.near.items c.args.kind c.args.text.now 0 names
    (marked c.if-not-self.false) c.in_ok-near.ensures
