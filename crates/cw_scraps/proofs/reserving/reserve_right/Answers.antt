-- One scrap more is turned into a type, or stays, and one step more is counted.
use Rattle.cw_scraps.proofs.Terms.{◌≡◌, ℕ, ◌+◌, ◌-◌, ◌≤◌, ap, ◌∙◌, arith}
use Rattle.cw_scraps.proofs.Changings.{tied-idle}
use Rattle.cw_scraps.proofs.Reservings.{turn-there, turn-inside, turns-more, turns-end}
use Rattle.cw_scraps.proofs.reserving.reserve_right.Goals as goal

one-more : (n a i : ℕ) → a ≤ i → n + (i - a) + 1 ≡ n + ((i + 1) - a)
one-more n a i h = omega arith

pub reserve_bare-entry-requires-clause-list : goal.reserve_bare-entry-requires-clause-list
reserve_bare-entry-requires-clause-list g c = rw c.entry.ensures (turn-there _ _ _ _ _ _ _ c.loop-i.invariant.turns
    (tied-idle c.args.store.now c.requires.idle c.tied_law.ensures) c.requires.roots
    (omega (arith, c.len-i-end.ensures)))

pub put-requires : goal.put-requires
put-requires g c = turn-inside _ _ _ _ _ _ _ c.loop-i.invariant.turns (tied-idle c.args.store.now c.requires.idle
    c.tied_law.ensures) c.requires.roots (omega (arith, c.len-i-end.ensures))

pub loop-i-preserved : goal.loop-i-preserved
loop-i-preserved g c = record {
  turns = rw c.put.ensures (turns-more _ _ _ _ _ _ _ c.loop-i.invariant.turns
      (tied-idle c.args.store.now c.requires.idle c.tied_law.ensures) c.requires.roots c.loop-i.auto.i
      (omega (arith, c.len-i-end.ensures)) _ _ (rw c.entry.ensures at c.reserve_bare-entry.ensures.scrap) (rw
      c.entry.ensures at c.reserve_bare-entry.ensures.list) (rw c.entry.ensures at c.reserve_bare-entry.ensures.lists));
  idle = c.reserve_bare-entry.ensures.idle;
  spare = c.reserve_bare-entry.ensures.spare ∙ c.loop-i.invariant.spare;
  steps = c.tick.ensures ∙ (ap (λ n. n + 1) c.loop-i.invariant.steps
      ∙ one-more c.args.steps.now c.args.start c.loop-i.i c.loop-i.auto.i);
}

pub returns-clause-scraps : goal.returns-clause-scraps
returns-clause-scraps g c = turns-end _ _ _ _ _ _ _ c.loop-i.invariant.turns c.requires.start
    (omega (arith, c.len-i-end.ensures))
