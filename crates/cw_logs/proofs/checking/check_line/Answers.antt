-- What the walk found is the verdict.
use Rattle.cw_logs.proofs.CheckTerms.{ap, map, ◌∙◌, LogPosition, verdict_of}
use Rattle.cw_scraps.specs.Applying.{state_of}
use Rattle.cw_rewrite.proofs.LogSteps.{on-err}
use Rattle.cw_leaves.specs.Spelling.{production_of}
use Rattle.cw_logs.proofs.Prefixes.{ended-within, found, in-normal-form, settled}
use Rattle.cw_logs.proofs.checking.check_line.Goals as goal

pub returns-clause-judges : goal.returns-clause-judges
returns-clause-judges g c =
    let f = settled c.args.flags.now (state_of c.args.store.now.lists c.args.line.now c.args.marks.now c.args.names.now)
    (state_of c.reduce_watched.new.store.lists c.reduce_watched.new.line c.reduce_watched.new.marks
    c.reduce_watched.new.names) c.reduce_watched.new.watch.log (map production_of c.args.log.now) c.verdict.result _
    (found c.args.flags.now (state_of c.args.store.now.lists c.args.line.now c.args.marks.now c.args.names.now)
    (state_of c.reduce_watched.new.store.lists c.reduce_watched.new.line c.reduce_watched.new.marks
    c.reduce_watched.new.names) c.reduce_watched.new.watch.log c.reduce_watched.new.watch.at c.verdict.ensures.within
    c.in_ok-reduced.reduced (rw c.over-against.ensures at c.in_ok-reduced.ensures.told)
    (in-normal-form _ _ _ _ c.in_ok-reduced.ensures.reduced)
    (rw c.over-against.ensures at c.in_ok-reduced.ensures.stopped))
    (c.reduce_watched.ensures.basis ∙ ap (λ (x : LogPosition). x.log) c.over-against.ensures)
    (c.verdict.ensures.value ∙ ap (λ b. verdict_of b c.reduce_watched.new.watch) c.is_some.ensures) in
    f.judges

pub returns-clause-stands : goal.returns-clause-stands
returns-clause-stands g c =
    let f = settled c.args.flags.now (state_of c.args.store.now.lists c.args.line.now c.args.marks.now c.args.names.now)
    (state_of c.reduce_watched.new.store.lists c.reduce_watched.new.line c.reduce_watched.new.marks
    c.reduce_watched.new.names) c.reduce_watched.new.watch.log (map production_of c.args.log.now) c.verdict.result _
    (found c.args.flags.now (state_of c.args.store.now.lists c.args.line.now c.args.marks.now c.args.names.now)
    (state_of c.reduce_watched.new.store.lists c.reduce_watched.new.line c.reduce_watched.new.marks
    c.reduce_watched.new.names) c.reduce_watched.new.watch.log c.reduce_watched.new.watch.at c.verdict.ensures.within
    c.in_ok-reduced.reduced (rw c.over-against.ensures at c.in_ok-reduced.ensures.told)
    (in-normal-form _ _ _ _ c.in_ok-reduced.ensures.reduced)
    (rw c.over-against.ensures at c.in_ok-reduced.ensures.stopped))
    (c.reduce_watched.ensures.basis ∙ ap (λ (x : LogPosition). x.log) c.over-against.ensures)
    (c.verdict.ensures.value ∙ ap (λ b. verdict_of b c.reduce_watched.new.watch) c.is_some.ensures) in
    f.stands

-- for want of memory no more was done than was told
pub returns-in_err-reduced-clause-memory : goal.returns-in_err-reduced-clause-memory
returns-in_err-reduced-clause-memory g c = on-err c.from_residual.result _ (ended-within c.args.flags.now (state_of
    c.args.store.now.lists c.args.line.now c.args.marks.now c.args.names.now) (state_of c.reduce_watched.new.store.lists
    c.reduce_watched.new.line c.reduce_watched.new.marks c.reduce_watched.new.names) c.reduce_watched.new.watch.log
    (map production_of c.args.log.now) c.reduce_watched.new.watch.at c.reduce_watched.ensures.reaches.after
    (rw c.over-against.ensures at c.in_err-reduced.ensures.memory) (c.reduce_watched.ensures.basis
    ∙ ap (λ (x : LogPosition). x.log) c.over-against.ensures))
