-- What a translation reads, what it works on, and what its calls do: one relation for a call that reads, and one for
-- a call that ends a text.
use Rattle.std.specs.Prelude.{◌≡◌, ◌+◌, ◌*◌, ◌≤◌, ◌⊎◌, List, [], ◌∷◌, length, None, Option, Result, IfOk, OnOk, OnErr}
use Rattle.cw_base.specs.declared.flags.Flags.{Flags}
use Rattle.cw_base.specs.declared.memory.Memory.{Memory}
use Rattle.cw_rules.specs.Answers.{Answer}
use Rattle.cw_names.specs.Names.{Entry}
use Rattle.cw_rewrite.specs.Telling.{WatchState}
use Rattle.cw_tokens.specs.Shapes.{unfolded}
use Rattle.cw_scraps.specs.Changing.{Keeps}
use Rattle.cw_scraps.specs.Lines.{AreRoots, IsNamedBelow}
use Rattle.cw_translator.specs.declared.translator.Translated.{Translated}
use Rattle.cw_translator.specs.declared.translator.Translator.{Translator}
use Rattle.cw_translator.specs.declared.work.Context.{Context}
use Rattle.cw_translator.specs.declared.work.Work.{Work}
use Rattle.cw_translator.specs.NameParts.{name_texts}
use Rattle.cw_translator.specs.Counting.{limit_in}
use Rattle.cw_translator.specs.Translating.{Ended, NameTexts}
use Rattle.cw_translator.specs.Opening.{HasCome, HasEnded, IsTranslating, all_roots, progress_of}
use Rattle.cw_translator.specs.Recording.{HasRecorded}
use Rattle.cw_translator.specs.Reading.{Progress, after_answers}
use Rattle.cw_translator.specs.model.Reading.{all_ended}
use Rattle.cw_translator.specs.Retyping.{NamesAmong, NamesOnTheWay}

-- the texts that section names stand for
abbrev pub texts_in : Context → NameTexts
texts_in context = name_texts context.sec_names.now context.uses.now

-- the names, the store, the marks and the steps are those that it began with
pub record IsSameWork {L R : Type 0} (old new : Work L R) : Type 0 where
  pub names : new.names.ghost_name ≡ old.names.ghost_name
  pub store : new.store.ghost_name ≡ old.store.ghost_name
  pub marks : new.marks.ghost_name ≡ old.marks.ghost_name
  pub steps : new.steps.ghost_name ≡ old.steps.ghost_name

-- how far a translation has come that works on this
abbrev pub progress_over : {L R : Type 0} → Work L R → Translator → Progress
progress_over work t = progress_of work.store.now.lists work.names.now work.marks.now t []

-- a translation that works on this has come from where it stood to `p`
abbrev pub HasComeOver : {L R : Type 0} → Flags → Translator → Work L R → Translator → Work L R → Progress → Type 0
HasComeOver flags t old t' new p = HasCome flags t old.steps.now new.store.now.lists new.names.now new.marks.now t'
    new.steps.now p

-- Where a call goes that reads: how far the translation comes, and which names it may leave for want of memory.
pub record Route : Type 1 where
  pub flags : Flags
  pub ends : Progress
  pub leaves : List Entry → Type 0

-- over these answers
abbrev pub over : Flags → List Answer → Progress → Route
over flags answers p = record {
  flags = flags;
  ends = after_answers flags answers p;
  leaves = λ new. NamesAmong flags answers p new;
}

-- a route, and then these answers
abbrev pub prolonged : Route → List Answer → Route
prolonged c answers = record {
  flags = c.flags;
  ends = after_answers c.flags answers c.ends;
  leaves = λ new. c.leaves new ⊎ NamesAmong c.flags answers c.ends new;
}

-- A call has gone this route: what is open is sound, and has come to where the route ends; the lists that the store
-- held stay. Where it was refused, the names are some that the route leaves. Whatever it answers, the steps are within
-- the limit.
pub record Advances {L R T : Type 0} (told : R → Option WatchState) (c : Route) (t : Translator) (old : Work L R)
    (t' : Translator) (new : Work L R) (result : Result T Memory) : Type 0 where
  pub translating : OnOk result (IsTranslating new.store.now new.names.now t')
  pub come : OnOk result (HasComeOver c.flags t old t' new c.ends)
  pub keeps : OnOk result (Keeps old.store.now.lists new.store.now.lists (all_roots t.nesting) (all_roots t'.nesting))
  pub names : OnErr result (c.leaves new.names.now)
  pub recorded : HasRecorded c.flags c.ends.known.ended (told old.recorder) (told new.recorder) result
  pub bound : new.steps.now ≤ old.steps.now + limit_in c.flags c.ends.known.ended
  pub same : IsSameWork old new
  pub idle : new.store.now.building ≡ None

-- What a call comes to that ends a text: its translation, and which names it may leave for want of memory.
pub record Target : Type 1 where
  pub flags : Flags
  pub text : Ended
  pub leaves : List Entry → Type 0

-- a call has ended a text over this
abbrev pub HasEndedOver : {L R : Type 0} → Flags → Translator → Work L R → Work L R → Translated → Ended → Type 0
HasEndedOver flags t old new done text = HasEnded flags t old.steps.now new.store.now.lists new.names.now
    new.marks.now done new.steps.now text

-- over these answers to the end
abbrev pub to_end : Flags → List Answer → Progress → Target
to_end flags answers p = record {
  flags = flags;
  text = all_ended flags (after_answers flags answers p);
  leaves = λ new. NamesOnTheWay flags answers p new;
}

-- A call has ended a text of which this was open: its tree, names, marks and counts are those of the outcome. Its list
-- is one to which no list refers, the names in it are names, and the lists that the store held stay.
pub record EndsIn {L R : Type 0} (told : R → Option WatchState) (o : Target) (t : Translator) (old new : Work L R)
    (result : Result Translated Memory) : Type 0 where
  pub text : IfOk result (λ done. HasEndedOver o.flags t old new done o.text)
  pub few : IfOk result (λ done. done.productions ≤ 8 * done.scraps)
  pub named : IfOk result (λ done. IsNamedBelow (length new.names.now) (unfolded new.store.now.lists done.list.index))
  pub root : IfOk result (λ done. AreRoots new.store.now.lists (done.list.index ∷ []))
  pub keeps : IfOk result (λ done. Keeps old.store.now.lists new.store.now.lists (all_roots t.nesting)
      (done.list.index ∷ []))
  pub refused : OnErr result (o.leaves new.names.now)
  pub recorded : HasRecorded o.flags o.text.known.ended (told old.recorder) (told new.recorder) result
  pub bound : new.steps.now ≤ old.steps.now + limit_in o.flags o.text.known.ended
  pub same : IsSameWork old new
  pub idle : new.store.now.building ≡ None
