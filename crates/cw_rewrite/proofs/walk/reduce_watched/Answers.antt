-- Each turn rewrites at the next place where a row fits and goes back, and less of the walk is left; behind the last
-- production no row fits up to the end of the line. Each production is told before it is done.
use Rattle.std.proofs.Common.{◌∙◌, ap, arith}
use Rattle.cw_scraps.proofs.Applied.{keeps-trans}
use Rattle.cw_scraps.specs.Applying.{state_of}
use Rattle.cw_scraps.specs.Lines.{roots_of}
use Rattle.cw_rewrite.proofs.LogSteps.{ends-before, ends-behind, stops-before, told-next, told-whole}
use Rattle.cw_rewrite.proofs.WalkLoop.{turn-next, at-end, not-done, stops, ends, light, few}
use Rattle.cw_rewrite.proofs.walk.reduce_watched.Goals as goal

pub rewrite_at-requires-clause-fits : goal.rewrite_at-requires-clause-fits
rewrite_at-requires-clause-fits g c =
    let next = c.in-Some.ensures.next in
    let t = turn-next c.loop-found.invariant.0 next in
    rw c.next_row.ensures.same t.fits

pub returns-in_err-rewrite_at-clause-reaches : goal.returns-in_err-rewrite_at-clause-reaches
returns-in_err-rewrite_at-clause-reaches g c =
    let i = c.loop-found.invariant.0 in
    let next = c.in-Some.ensures.next in
    let t = turn-next i next in
    let s = t.refused c.rewrite_at.new.line c.rewrite_at.new.store c.rewrite_at.new.names c.rewrite_at.new.marks
    c.rewrite_at.new.steps (rw c.next_row.ensures.same at c.in_err-rewrite_at.ensures.state)
    c.in_err-rewrite_at.ensures.refused
    (omega (arith, c.in_err-rewrite_at.ensures.steps, next.counted)) in
    record {
      after = s.after;
      words = c.in_err-rewrite_at.ensures.words ∙ i.words;
      numbers = s.numbers;
      sound = c.in_err-rewrite_at.ensures.sound;
      others = keeps-trans c.args.store.now.lists c.loop-found.store.lists c.rewrite_at.new.store.lists
          (roots_of c.args.line.now) (roots_of c.loop-found.line) (roots_of c.rewrite_at.new.line) i.keeps
          (rw c.next_row.ensures.same at c.in_err-rewrite_at.ensures.others);
      tokens = s.tokens;
      no_more = s.no_more;
      bound = s.bound;
    }

pub overflow_add-productions : goal.overflow_add-productions
overflow_add-productions g c =
    let next = c.in-Some.ensures.next in
    let t = turn-next c.loop-found.invariant.0 next in
    omega (arith, t.enough)

pub loop-found-smaller : goal.loop-found-smaller
loop-found-smaller g c =
    let next = c.in-Some.ensures.next in
    let t = turn-next c.loop-found.invariant.0 next in
    omega (
      arith,
      next.passed.on,
      t.less (state_of c.rewrite_at.new.store.lists c.rewrite_at.new.line c.rewrite_at.new.marks c.rewrite_at.new.names)
          c.distance.result c.saturating_sub-place.result
          (rw c.next_row.ensures.same at c.in_ok-rewrite_at.ensures.state)
          c.distance.ensures c.saturating_sub-place.ensures,
    )

pub loop-found-preserved : goal.loop-found-preserved
loop-found-preserved g c =
    let next = c.in-Some.ensures.next in
    let t = turn-next c.loop-found.invariant.0 next in (
      t.next c.distance.result c.saturating_sub-place.result c.distance.ensures c.saturating_sub-place.ensures
          c.rewrite_at.new.line c.rewrite_at.new.store c.rewrite_at.new.names c.rewrite_at.new.marks
          c.rewrite_at.new.steps
          (rw c.next_row.ensures.same at c.in_ok-rewrite_at.ensures.state) (omega (
            arith,
            (rw c.next_row.ensures.same at
                c.in_ok-rewrite_at.ensures.steps),
            next.counted,
          )) c.in_ok-rewrite_at.ensures.sound (rw c.next_row.ensures.same at
          c.in_ok-rewrite_at.ensures.others) c.in_ok-rewrite_at.ensures.words c.in_ok-rewrite_at.ensures.tokens,
      (
        told-next _ _ _ (g.W.Watch.told c.args.watch.now) t.heard c.loop-found.invariant.1.0
            (c.in_ok-hear.ensures.goes c.if-not-branch.false),
        c.hear.ensures.same ∙ c.loop-found.invariant.1.1,
      ),
    )

pub returns-clause-reaches : goal.returns-clause-reaches
returns-clause-reaches g c =
    let more = c.in_default.ensures.next in
    let h = at-end c.loop-found.invariant.0 more in
    let s = stops _ _ _ _ _ _ _ _ _ _ _ _ _ h more.past in
    rw c.next_row.ensures.same (record {
      after = s.after;
      words = h.words;
      numbers = s.numbers;
      sound = h.sound;
      others = h.keeps;
      tokens = s.tokens;
      no_more = s.no_more;
      bound = s.bound;
    })

pub returns-clause-reduced : goal.returns-clause-reduced
returns-clause-reduced g c =
    let more = c.in_default.ensures.next in
    let h = at-end c.loop-found.invariant.0 more in
    let e = ends _ _ _ _ _ _ _ _ _ _ _ _ _ h more.past in
    rw c.next_row.ensures.same (record {
      normal_form = e.normal;
      productions_are = e.number;
      light = light _ _ _ _ _ _ _ _ _ _ _ _ _ h more.past;
      few = few _ _ _ _ _ _ _ _ _ _ _ _ _ h more.past;
      steps_are = e.ticked;
    })

pub returns-in_err-hear-clause-reaches : goal.returns-in_err-hear-clause-reaches
returns-in_err-hear-clause-reaches g c =
    let i = c.loop-found.invariant.0 in
    let s = not-done i c.in-Some.ensures.next c.next_row.new.line c.next_row.ensures.same in
    record {
      after = s.after;
      words = i.words;
      numbers = s.numbers;
      sound = rw c.next_row.ensures.same i.sound;
      others = rw c.next_row.ensures.same i.keeps;
      tokens = s.tokens;
      no_more = s.no_more;
      bound = s.bound;
    }

pub returns-then-not-branch-clause-reaches : goal.returns-then-not-branch-clause-reaches
returns-then-not-branch-clause-reaches g c =
    let i = c.loop-found.invariant.0 in
    let s = not-done i c.in-Some.ensures.next c.next_row.new.line c.next_row.ensures.same in
    record {
      after = s.after;
      words = i.words;
      numbers = s.numbers;
      sound = rw c.next_row.ensures.same i.sound;
      others = rw c.next_row.ensures.same i.keeps;
      tokens = s.tokens;
      no_more = s.no_more;
      bound = s.bound;
    }

pub returns-then-not-branch-clause-stopped : goal.returns-then-not-branch-clause-stopped
returns-then-not-branch-clause-stopped g c =
    let next = c.in-Some.ensures.next in
    let t = turn-next c.loop-found.invariant.0 next in
    λ e. stops-before c.args.flags.now _ _ _ (g.W.Watch.told c.args.watch.now) _ c.loop-found.productions t.inside
    t.reached (ap (λ l. state_of c.loop-found.store.lists l c.loop-found.marks c.loop-found.names)
    c.next_row.ensures.same) _ _ t.there (c.in_ok-hear.ensures.refused c.if-not-branch.true)
    (c.in_ok-hear.ensures.stays c.if-not-branch.true) c.loop-found.invariant.1.0

-- nothing of the next production was told, or it was told and isn't done
pub returns-in_err-hear-clause-memory : goal.returns-in_err-hear-clause-memory
returns-in_err-hear-clause-memory g c =
    let next = c.in-Some.ensures.next in
    let t = turn-next c.loop-found.invariant.0 next in
    ends-before c.args.flags.now _ _ _ (g.W.Watch.told c.args.watch.now) _ c.loop-found.productions t.inside t.reached
    (ap (λ l. state_of c.loop-found.store.lists l c.loop-found.marks c.loop-found.names) c.next_row.ensures.same)
    c.from_residual.result c.in_err-hear.ensures.unheard c.loop-found.invariant.1.0

pub returns-in_err-rewrite_at-clause-memory : goal.returns-in_err-rewrite_at-clause-memory
returns-in_err-rewrite_at-clause-memory g c =
    let next = c.in-Some.ensures.next in
    let t = turn-next c.loop-found.invariant.0 next in
    ends-behind c.args.flags.now _ _ _ (g.W.Watch.told c.args.watch.now) _ c.loop-found.productions t.inside t.reached
    (rw c.next_row.ensures.same at c.in_err-rewrite_at.ensures.state) c.from_residual-in_err-rewrite_at.result
    (told-next _ _ _ (g.W.Watch.told c.args.watch.now) t.heard c.loop-found.invariant.1.0
    (c.in_ok-hear.ensures.goes c.if-not-branch.false))

-- behind the last production all were told
pub returns-clause-told : goal.returns-clause-told
returns-clause-told g c =
    let more = c.in_default.ensures.next in
    let h = at-end c.loop-found.invariant.0 more in
    told-whole c.args.flags.now _ c.loop-found.productions (g.W.Watch.told c.args.watch.now) c.loop-found.invariant.1.0
    ((ends _ _ _ _ _ _ _ _ _ _ _ _ _ h more.past).number)
