-- A line that is reduced and put together is one list, with the categories of names that its normal form has.
use Rattle.cw_translator.proofs.Terms.{length, refl, sym, ap, ◌∙◌, subst, arith, productions, State, whole, state_of}
use Rattle.cw_translator.proofs.Terms.{IsNamedBelow, scraps_of, keeps-trans, tied-idle, gathers-keeps, whole-named}
use Rattle.cw_table.proofs.Examples.{productions-sound}
use Rattle.cw_table.proofs.StepLaws.{is-after}
use Rattle.cw_translator.proofs.FinishSteps.{gathers-root}
use Rattle.cw_translator.proofs.Recorded.{begun-told, recorded-one, recorded-unended}
use Rattle.cw_translator.proofs.Retypings.{retypes, retyped-names}
use Rattle.cw_translator.proofs.translator.end_line.Goals as goal

pub returns-in_err-reduced-clause-retypes : goal.returns-in_err-reduced-clause-retypes
returns-in_err-reduced-clause-retypes g c = retypes _ _ _ _ _ c.in_err-reduced.ensures.reaches.after refl
    c.in_err-reduced.ensures.reaches.words

pub returns-in_err-list-clause-retypes : goal.returns-in_err-list-clause-retypes
returns-in_err-list-clause-retypes g c = retypes _ _ _ _ _ c.in_ok-reduced.ensures.reaches.after refl
    c.in_ok-reduced.ensures.reaches.words

pub returns-clause-retypes : goal.returns-clause-retypes
returns-clause-retypes g c =
    retypes _ _ _ _ _ c.in_ok-reduced.ensures.reaches.after refl c.in_ok-reduced.ensures.reaches.words

-- nothing was done yet, or the line was reduced
pub returns-in_err-begin-clause-retypes : goal.returns-in_err-begin-clause-retypes
returns-in_err-begin-clause-retypes g c = retypes _ _ (state_of c.args.work.now.store.now.lists c.args.line.now
    c.args.work.now.marks.now c.args.work.now.names.now) _ _ (is-after productions c.args.context.now.flags.now 0
    (state_of c.args.work.now.store.now.lists c.args.line.now c.args.work.now.marks.now c.args.work.now.names.now)
    productions-sound c.requires.sound.fine (omega arith)) refl refl

pub returns-in_err-end-clause-retypes : goal.returns-in_err-end-clause-retypes
returns-in_err-end-clause-retypes g c = retypes _ _ _ _ _ c.in_ok-reduced.ensures.reaches.after refl
    c.in_ok-reduced.ensures.reaches.words

-- The text is told when it is reduced.
pub returns-in_err-begin-clause-recorded : goal.returns-in_err-begin-clause-recorded
returns-in_err-begin-clause-recorded g c = recorded-unended _ _ c.in_err-begin.ensures.refused c.from_residual.ensures.1

pub returns-in_err-reduced-clause-recorded : goal.returns-in_err-reduced-clause-recorded
returns-in_err-reduced-clause-recorded g c = recorded-unended _ _
    (begun-told (scraps_of c.args.work.now.store.now.lists c.args.line.now) _ (g.R.Watch.told c.args.work.now.recorder)
    c.in_ok-begin.ensures.begins c.in_err-reduced.ensures.memory.heard) c.from_residual-in_err-reduced.ensures.1

pub returns-in_err-end-clause-recorded : goal.returns-in_err-end-clause-recorded
returns-in_err-end-clause-recorded g c = recorded-unended _ _ (c.in_err-end.ensures.refused
    ∙ begun-told (scraps_of c.args.work.now.store.now.lists c.args.line.now) _ (g.R.Watch.told c.args.work.now.recorder)
    c.in_ok-begin.ensures.begins (rw c.in-Some.is at c.in_ok-reduced.ensures.told)) c.from_residual-in_err-end.ensures.1

pub returns-in_err-list-clause-recorded : goal.returns-in_err-list-clause-recorded
returns-in_err-list-clause-recorded g c = recorded-one _ _ _ c.in_ok-begin.ensures.begins
    (rw c.in-Some.is at c.in_ok-reduced.ensures.told) c.in_ok-end.ensures.ends

pub returns-clause-recorded : goal.returns-clause-recorded
returns-clause-recorded g c = recorded-one c.args.context.now.flags.now
    (state_of c.args.work.now.store.now.lists c.args.line.now c.args.work.now.marks.now c.args.work.now.names.now) _
    c.in_ok-begin.ensures.begins (rw c.in-Some.is at c.in_ok-reduced.ensures.told) c.in_ok-end.ensures.ends

pub returns-clause-done : goal.returns-clause-done
returns-clause-done g c =
    let tied = tied-idle c.reduce_watched.new.store c.in_ok-reduced.ensures.reaches.sound.idle c.tied_law.ensures in
    record {
      tree = c.in_ok-list.ensures.tree ∙ ap (λ (s : State). whole s.scraps)
          (rw c.in-Some.is at c.in_ok-reduced.ensures.reduced).normal_form;
      scraps = c.len-scraps.ensures.length;
      productions_are = (rw c.in-Some.is at c.in_ok-reduced.ensures.reduced).productions_are;
      few = omega (arith, c.len-scraps.ensures.length, (rw c.in-Some.is at c.in_ok-reduced.ensures.reduced).few);
      names_are = retyped-names _ _ _ _ _ (rw c.in-Some.is at c.in_ok-reduced.ensures.reduced).normal_form refl
          c.in_ok-reduced.ensures.reaches.words;
      marks_are = ap (λ (s : State). s.marks) (rw c.in-Some.is at c.in_ok-reduced.ensures.reduced).normal_form;
      steps_are = (rw c.in-Some.is at c.in_ok-reduced.ensures.reduced).steps_are;
      words = c.in_ok-reduced.ensures.reaches.words;
      named = subst (IsNamedBelow (length c.reduce_watched.new.names)) (sym c.in_ok-list.ensures.tree)
          (whole-named (length c.reduce_watched.new.names)
          (scraps_of c.reduce_watched.new.store.lists c.reduce_watched.new.line)
          c.in_ok-reduced.ensures.reaches.sound.named);
      root = gathers-root _ _ _ _ c.in_ok-list.ensures.gathers tied c.in_ok-reduced.ensures.reaches.sound.roots;
      keeps = keeps-trans _ _ _ _ _ _ c.in_ok-reduced.ensures.reaches.others (gathers-keeps _ _ _ _
          c.in_ok-list.ensures.gathers tied c.in_ok-reduced.ensures.reaches.sound.roots);
      idle = c.in_ok-list.ensures.idle;
    }
