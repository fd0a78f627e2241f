-- What a translation tells a log stands in it when the work is taken apart.
use Rattle.cw_log.proofs.Terms.{◌≡◌, ◌++◌, ◌∙◌, List, Some, Result, ap, map, take, Flags, TextLog, WatchState, State}
use Rattle.cw_log.proofs.Terms.{HasRecorded, logged, HasLogged, LoggedTexts}
use Rattle.cw_base.specs.declared.memory.Memory.{Memory}
use Rattle.cw_log.proofs.published.translate_logged.Goals as goal

has-logged : {T : Type 0} (flags : Flags) (states : List State) (before after : WatchState) (old new : List TextLog)
    (result : Result T Memory) → before.ended ≡ old → new ≡ after.ended
    → HasRecorded flags states (Some before) (Some after) result → HasLogged flags states old new result
has-logged flags states before after old new result same left h =
    let e : Some after.ended ≡ Some (before.ended ++ map (logged flags) (take h.number states)) = h.is in
    let d : after.ended ≡ before.ended ++ map (logged flags) (take h.number states) = cc in
    record {
      number = h.number;
      within = h.within;
      is = left ∙ (d ∙ ap (λ (texts : List TextLog). texts ++ map (logged flags) (take h.number states)) same);
      all = h.all;
    }

pub returns-clause-logged : goal.returns-clause-logged
returns-clause-logged g c = has-logged _ _ _ _ _ _ _
    (ap (λ (l : LoggedTexts). l.ended) c.replace-recorder.ensures.value)
    (ap (λ (l : LoggedTexts). l.ended) c.recorder_of.ensures.recorder) c.translate_recorded-done.ensures.text.recorded
