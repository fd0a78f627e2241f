-- The scrap is reduced already, and its list takes the place of its own.
use Rattle.cw_reduce.proofs.Terms.{ends-refused, gathers-root}
use Rattle.cw_reduce.proofs.AloneSteps.{alone-done, alone-fails, alone-recorded, alone-spent}
use Rattle.cw_rewrite.proofs.GatherLaws.{gathers-keeps, whole-named}
use Rattle.cw_reduce.proofs.alone.end_alone.Goals as goal
use Rattle.cw_translator.proofs.Terms.{◌∷◌, [], length, refl, arith, tied-idle, entry_of, scraps_of}
use Rattle.cw_translator.proofs.Recorded.{recorded-unended}

pub returns-in_err-record_alone : goal.returns-in_err-record_alone
returns-in_err-record_alone g c = λ flags. ends-refused c.from_residual.ensures.1
    (alone-fails flags _ _ c.args.work.now.marks.now c.args.leaf c.args.work.now.steps.now c.requires.sound
    c.requires.alone) (recorded-unended _ _ c.in_err-record_alone.ensures.refused c.from_residual.ensures.1)
    (omega arith) (record { names = refl; store = refl; marks = refl; steps = refl }) c.requires.sound.idle

pub returns-in_err-list : goal.returns-in_err-list
returns-in_err-list g c = λ flags. ends-refused c.from_residual-in_err-list.ensures.1 (alone-fails flags _ _
    c.args.work.now.marks.now c.args.leaf c.args.work.now.steps.now c.requires.sound c.requires.alone)
    (alone-recorded flags _ _ c.args.work.now.marks.now c.args.leaf c.args.work.now.steps.now c.requires.sound
    c.requires.alone c.from_residual-in_err-list.result refl c.in_ok-record_alone.ensures.told) (alone-spent flags _ _
    c.args.work.now.marks.now c.args.leaf c.args.work.now.steps.now c.requires.sound c.requires.alone c.tick-4.new.self
    (omega (arith, c.tick.ensures, c.tick-2.ensures, c.tick-3.ensures, c.tick-4.ensures)))
    (record { names = refl; store = refl; marks = refl; steps = refl }) c.in_err-list.ensures.idle

pub returns : goal.returns
returns g c = λ flags. record {
  text = alone-done flags _ _ c.args.work.now.marks.now c.args.leaf c.args.work.now.steps.now c.requires.sound
      c.requires.alone c.put_alone.new.store.lists (record { list = c.in_ok-list.list; scraps = 1; productions = 0 })
      c.tick-4.new.self c.in_ok-list.ensures.tree refl refl
      (omega (arith, c.tick.ensures, c.tick-2.ensures, c.tick-3.ensures, c.tick-4.ensures));
  few = omega arith;
  named = rw c.in_ok-list.ensures.tree (whole-named (length c.args.work.now.names.now)
      (scraps_of c.args.work.now.store.now.lists (entry_of c.args.leaf ∷ [])) c.requires.sound.named);
  root = gathers-root _ _ _ _ c.in_ok-list.ensures.gathers (tied-idle c.args.work.now.store.now c.requires.sound.idle
      c.tied_law.ensures) c.requires.sound.roots;
  keeps = gathers-keeps _ _ _ _ c.in_ok-list.ensures.gathers (tied-idle c.args.work.now.store.now c.requires.sound.idle
      c.tied_law.ensures) c.requires.sound.roots;
  refused = tt;
  recorded = alone-recorded flags _ _ c.args.work.now.marks.now c.args.leaf c.args.work.now.steps.now c.requires.sound
      c.requires.alone _ refl c.in_ok-record_alone.ensures.told;
  bound = alone-spent flags _ _ c.args.work.now.marks.now c.args.leaf c.args.work.now.steps.now c.requires.sound
      c.requires.alone c.tick-4.new.self
      (omega (arith, c.tick.ensures, c.tick-2.ensures, c.tick-3.ensures, c.tick-4.ensures));
  same = record { names = refl; store = refl; marks = refl; steps = refl };
  idle = c.in_ok-list.ensures.idle;
}
