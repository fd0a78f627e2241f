-- Calls that read, and a call that ends a text: none, one then another, and a stop.
use Rattle.cw_translator.proofs.Terms.{◌≡◌, ◌+◌, ◌≤◌, List, [], ◌∷◌, ◌++◌, ◌⊎◌, inr, refl, sym, ap, ◌∙◌, subst, None}
use Rattle.cw_translator.proofs.Terms.{Option, arith, Result, Ok, Err, IsErrAnd, OnOk, append-nil, IfOk-weaker}
use Rattle.cw_translator.proofs.Terms.{on_err_weaker, on_ok_weaker, Flags, Memory, Answer, Seen, Finish, TokKind, Entry}
use Rattle.cw_translator.proofs.Terms.{State, WatchState, Keeps, keeps-trans, Translated, Translator, Work, limit_in}
use Rattle.cw_translator.proofs.Terms.{all_roots, progress_of, IsTranslating, HasRecorded, NamesOnTheWay, NamesAmong}
use Rattle.cw_translator.proofs.Terms.{here, at_finish, at_end, later, Frame, Progress, after_token, after_finish}
use Rattle.cw_translator.proofs.Terms.{after_answer, after_answers, all_ended, last_scraps, Ended, Known, state_in}
use Rattle.cw_translator.proofs.Terms.{Route, IsSameWork, Target, Advances, EndsIn, HasComeOver, over, progress_over}
use Rattle.cw_translator.proofs.Terms.{prolonged, to_end, append_assoc}
use Rattle.std.specs.Prelude.{OnErr}
use Rattle.std.proofs.lemmas.List.Sums.{sum_by-append}
use Rattle.cw_translator.proofs.LeafSteps.{Same, Steps, keeps-itself}
use Rattle.cw_translator.proofs.Recorded.{recorded-none, recorded-refused, recorded-stopped, recorded-then}
use Rattle.cw_translator.proofs.Sums.{limits-more}
pub use Rattle.cw_rewrite.proofs.LogSteps.{on-err}
pub use Rattle.cw_translator.proofs.Recorded.{err-if, err-ok}

-- ## Answers

pub after-append : (flags : Flags) (xs ys : List Answer) (p : Progress)
    → after_answers flags (xs ++ ys) p ≡ after_answers flags ys (after_answers flags xs p)
after-append flags [] ys p = refl
after-append flags (x ∷ xs) ys p = after-append flags xs ys (after_answer flags x p)

-- what has ended before is not looked at
abbrev behind : List State → Progress → Progress
behind done p = record p { known = record p.known { ended = done ++ p.known.ended } }

behind-token : (done : List State) (k : TokKind) (token : Seen) (p : Progress)
    → after_token k token (behind done p) ≡ behind done (after_token k token p)
behind-token done k token p = grind arith

behind-finish : (flags : Flags) (done : List State) (frames : List Frame) (known : Known) → after_finish flags frames
    (behind done (record { frames = frames; known = known })).known ≡ behind done (after_finish flags frames known)
behind-finish flags done frames known = grind (arith, append_assoc, state_in)

behind-answer : (flags : Flags) (done : List State) (answer : Answer) (p : Progress)
    → after_answer flags answer (behind done p) ≡ behind done (after_answer flags answer p)
behind-answer flags done answer p = grind (arith, behind-token, behind-finish)

behind-answers : (flags : Flags) (done : List State) (answers : List Answer) (p : Progress)
    → after_answers flags answers (behind done p) ≡ behind done (after_answers flags answers p)
behind-answers flags done [] p = refl
behind-answers flags done (answer ∷ answers) p = ap (after_answers flags answers) (behind-answer flags done answer p)
    ∙ behind-answers flags done answers (after_answer flags answer p)

-- more comes behind what has ended
abbrev fresh_of : Progress → Progress
fresh_of p = record p { known = record p.known { ended = [] } }

ended-more : (flags : Flags) (answers : List Answer) (p : Progress) → (after_answers flags answers p).known.ended
    ≡ p.known.ended ++ (after_answers flags answers (fresh_of p)).known.ended
ended-more flags answers p =
    let is : p ≡ behind p.known.ended (fresh_of p) = ap (λ ended. record p { known = record p.known { ended = ended } })
    (sym (append-nil p.known.ended)) in
    ap (λ (q : Progress). q.known.ended) (ap (after_answers flags answers) is
    ∙ behind-answers flags p.known.ended answers (fresh_of p))

limit-more : (flags : Flags) (answers : List Answer) (p : Progress)
    → limit_in flags p.known.ended ≤ limit_in flags (after_answers flags answers p).known.ended
limit-more flags answers p = rw (ended-more, limits-more flags) (omega arith)

-- a call that was refused, before those answers
recorded-further : {T U : Type 0} (flags : Flags) (answers : List Answer) (p : Progress) {before told : Option
    WatchState}
    {first : Result T Memory} {result : Result U Memory} {error : Memory} → IsErrAnd result (λ found. found ≡ error)
    → HasRecorded flags p.known.ended before told first
    → HasRecorded flags (after_answers flags answers p).known.ended before told result
recorded-further flags answers p is r = grind (arith, ended-more, recorded-stopped, after_answers)

later-all : (flags : Flags) (xs ys : List Answer) (p : Progress) (new : List Entry)
    → NamesOnTheWay flags ys (after_answers flags xs p) new → NamesOnTheWay flags (xs ++ ys) p new
later-all flags [] ys p new h = h
later-all flags (x ∷ xs) ys p new h = later x (xs ++ ys) p new (later-all flags xs ys (after_answer flags x p) new h)

among-joined : (flags : Flags) (xs ys : List Answer) (p : Progress) (new : List Entry)
    → NamesAmong flags xs p new ⊎ NamesAmong flags ys (after_answers flags xs p) new → NamesAmong flags (xs ++ ys) p new
among-joined flags xs ys p new h = grind (arith, append_assoc, later-all)

-- names on the way don't depend on what has ended before
way-behind : (flags : Flags) (done : List State) (answers : List Answer) (p : Progress) (new : List Entry)
    → NamesOnTheWay flags answers p new → NamesOnTheWay flags answers (behind done p) new
way-behind flags done answers p new (here _ _) = here answers (behind done p)
way-behind flags done (Finish token ∷ answers) p new (at_finish _ _ _ scraps outer _ open_is r) =
    at_finish token answers (behind done p) scraps outer new open_is r
way-behind flags done [] p new (at_end _ _ r) = at_end (behind done p) new r
way-behind flags done (answer ∷ answers) p new (later _ _ _ _ h) = later answer answers (behind done p) new
    (rw behind-answer (way-behind flags done answers (after_answer flags answer p) new h))

-- a text that ends behind others
abbrev text_behind : List State → Ended → Ended
text_behind done text = record text { known = record text.known { ended = done ++ text.known.ended } }

all-ended-behind : (flags : Flags) (done : List State) (p : Progress)
    → all_ended flags (behind done p) ≡ text_behind done (all_ended flags p)
all-ended-behind flags done p = grind (arith, append_assoc, state_in, last_scraps)

pub way-end : (flags : Flags) (answers : List Answer) (p q : Progress) (new : List Entry)
    → q ≡ after_answers flags answers p → NamesOnTheWay flags [] q new → NamesOnTheWay flags answers p new
way-end flags [] p q new e h = subst (λ x. NamesOnTheWay flags [] x new) e h
way-end flags (answer ∷ answers) p q new e h = later answer answers p new
    (way-end flags answers (after_answer flags answer p) q new e h)

-- from where a translation has come it goes on as from where nothing has ended
come-behind : {L R : Type 0} (flags : Flags) (t0 t1 : Translator) (old mid : Work L R) (p : Progress)
    → HasComeOver flags t0 old t1 mid p → p ≡ behind p.known.ended (progress_over mid t1)
come-behind flags t0 t1 old mid p come = grind (arith, progress_of, append-nil)

-- ## A call that reads

pub same-work : {L R : Type 0} {a b d : Work L R} → IsSameWork a b → IsSameWork b d → IsSameWork a d
same-work x y = grind arith

-- what a call has done in which no text ends
pub record Quiet {L R : Type 0} (t : Translator) (old : Work L R) (t' : Translator) (new : Work L R) (ends : Progress)
    : Type 0 where
  pub steps : Steps old.store.now new.store.now old.names.now new.names.now t t'
  pub counts : Same t t'
  pub is : progress_over new t' ≡ ends
  pub none : ends.known.ended ≡ []

pub unchanged : {L R : Type 0} {work : Work L R} → IsSameWork work work
unchanged = record { names = refl; store = refl; marks = refl; steps = refl }

module _ {L R : Type 0} {told : R → Option WatchState} {t : Translator} {old : Work L R} where
  pub advances-quiet : {T : Type 0} {c : Route} {t' : Translator} {new : Work L R} {result : Result T Memory}
      → OnOk result (Quiet t old t' new c.ends) → OnErr result (c.leaves new.names.now) → new.steps.now ≡ old.steps.now
      → new.recorder ≡ old.recorder → IsSameWork old new → new.store.now.building ≡ None
      → Advances told c t old t' new result
  advances-quiet {c = c} {t' = t'} {new = new} {result = result} quiet names ticks recorder
      same idle = grind (arith, recorded-none)

  -- nothing is read
  pub advances-none : {T : Type 0} (flags : Flags) {value : T} → IsTranslating old.store.now old.names.now t
      → Advances told (over flags [] (progress_over old t)) t old t old (Ok value)
  advances-none flags is = advances-quiet (record {
    steps = record { translating = is; keeps = keeps-itself old.store.now.lists (all_roots t.nesting) };
    counts = record { scraps = refl; productions = refl };
    is = refl;
    none = refl;
  }) tt refl refl unchanged is.idle

  -- memory is wanting
  pub advances-refused : {T : Type 0} {c : Route} {t' : Translator} {new : Work L R} {error : Memory}
      {result : Result T Memory} → IsErrAnd result (λ found. found ≡ error) → c.leaves new.names.now
      → HasRecorded c.flags c.ends.known.ended (told old.recorder) (told new.recorder) result
      → new.steps.now ≤ old.steps.now + limit_in c.flags c.ends.known.ended → IsSameWork old new
      → new.store.now.building ≡ None → Advances told c t old t' new result
  advances-refused {error = error} {result = result} is names recorded bound same idle = grind (arith, err-ok, on-err)

  -- before anything is changed
  pub advances-unread : {T : Type 0} (flags : Flags) (answers : List Answer) (p : Progress) {t' : Translator}
      {error : Memory} {result : Result T Memory} → IsErrAnd result (λ found. found ≡ error) → old.names.now
      ≡ p.known.names → old.store.now.building ≡ None → Advances told (over flags answers p) t old t' old result
  advances-unread flags answers p is names idle =
      grind (arith, advances-refused, here, recorded-refused, after_answers, unchanged)

  -- the same route and result, said otherwise
  advances-named : {T U : Type 0} {c : Route} {ends : Progress} {leaves : List Entry → Type 0} {t' : Translator}
      {new : Work L R} {result : Result T Memory} {other : Result U Memory} → c.ends ≡ ends
      → ((P : Type 0) → OnOk result P → OnOk other P) → OnErr other (leaves new.names.now) → Advances told c t old t'
      new result → Advances told (record { flags = c.flags; ends = ends; leaves = leaves }) t old t' new other
  advances-named {c = c} {leaves = leaves} {t' = t'} {new = new} {other = other} is on named r = grind arith

  pub advances-as : {T : Type 0} {c : Route} {ends : Progress} {leaves : List Entry → Type 0} {t' : Translator}
      {new : Work L R} {result : Result T Memory} → c.ends ≡ ends
      → ((names : List Entry) → c.leaves names → leaves names) → Advances told c t old t' new result
      → Advances told (record { flags = c.flags; ends = ends; leaves = leaves }) t old t' new result
  advances-as {new = new} {result = result} is among r = grind (arith, advances-named, on_err_weaker)

  -- The same for a call that was not refused: then nothing is said of names.
  pub advances-done : {T : Type 0} {c : Route} {ends : Progress} {leaves : List Entry → Type 0} {t' : Translator}
      {new : Work L R} {value : T} → c.ends ≡ ends → Advances told c t old t' new (Ok value)
      → Advances {T = T} told (record { flags = c.flags; ends = ends; leaves = leaves }) t old t' new (Ok value)
  advances-done is r = advances-named is (λ P h. h) tt r

  -- one call, and then another
  pub advances-then : {T U : Type 0} {c : Route} (ys : List Answer) {t1 t2 : Translator} {mid new : Work L R}
      {value : T} {result : Result U Memory} → Advances told c t old t1 mid (Ok value) → Advances told
      (over c.flags ys (progress_over mid t1)) t1 mid t2 new result → Advances told (prolonged c ys) t old t2 new result
  advances-then {c = c} ys {t1 = t1} {t2 = t2} {mid = mid} {new = new} {result = result} a b =
      let done = c.ends.known.ended in
      let fresh = progress_over mid t1 in
      let more = (after_answers c.flags ys fresh).known.ended in
      let now = come-behind c.flags t t1 old mid c.ends a.come in
      subst (λ (p : Progress). Advances told (record (prolonged c ys) { ends = p }) t old t2 new result)
      (sym (ap (after_answers c.flags ys) now ∙ behind-answers c.flags done ys fresh)) (record {
        translating = b.translating;
        come = on_ok_weaker result (λ h. record {
          is = ap (behind done) h.is;
          scraps = omega (arith, a.come.scraps, h.scraps, sum_by-append {X = State});
          productions_are = omega (arith, a.come.productions_are, h.productions_are, sum_by-append {X = State});
          steps_are = omega (arith, a.come.steps_are, h.steps_are, sum_by-append {X = State});
        }) b.come;
        keeps = on_ok_weaker result (λ k. keeps-trans old.store.now.lists mid.store.now.lists new.store.now.lists
            (all_roots t.nesting) (all_roots t1.nesting) (all_roots t2.nesting) a.keeps k) b.keeps;
        names = on_err_weaker result (λ h. inr (λ coming. rw now (way-behind c.flags done (ys ++ coming) fresh
            new.names.now (h coming)))) b.names;
        recorded = recorded-then c.flags done more a.recorded b.recorded;
        bound = omega (arith, a.bound, b.bound, sum_by-append {X = State});
        same = same-work a.same b.same;
        idle = b.idle;
      })

  -- a call that is refused, before another
  pub advances-stopped : {T U : Type 0} {c : Route} (ys : List Answer) {t1 t2 : Translator} {new : Work L R}
      {error : Memory} {result : Result U Memory} → Advances {T = T} told c t old t1 new (Err error)
      → IsErrAnd result (λ found. found ≡ error) → Advances told (prolonged c ys) t old t2 new result
  advances-stopped {c = c} ys r is = grind (arith, advances-refused, recorded-further, limit-more)

  -- ## Answers, and then others

  joined : {T : Type 0} (flags : Flags) (xs ys : List Answer) (p : Progress) {t' : Translator} {new : Work L R}
      {result : Result T Memory} → Advances told (prolonged (over flags xs p) ys) t old t' new result
      → Advances told (over flags (xs ++ ys) p) t old t' new result
  joined flags xs ys p r = advances-as (sym (after-append flags xs ys p)) (λ new. among-joined flags xs ys p new) r

  pub answers-then : {T U : Type 0} (flags : Flags) (xs ys : List Answer) (p : Progress) {t1 t2 : Translator}
      {mid new : Work L R} {value : T} {result : Result U Memory} → Advances told (over flags xs p) t old t1 mid
      (Ok value) → Advances told (over flags ys (progress_over mid t1)) t1 mid t2 new result
      → Advances told (over flags (xs ++ ys) p) t old t2 new result
  answers-then flags xs ys p a b = joined flags xs ys p (advances-then {c = over flags xs p} ys a b)

  pub answers-stopped : {T U : Type 0} (flags : Flags) (xs ys : List Answer) (p : Progress) {t1 t2 : Translator}
      {new : Work L R} {error : Memory} {result : Result U Memory}
      → Advances {T = T} told (over flags xs p) t old t1 new (Err error) → IsErrAnd result (λ found. found ≡ error)
      → Advances told (over flags (xs ++ ys) p) t old t2 new result
  answers-stopped flags xs ys p r is = joined flags xs ys p (advances-stopped {c = over flags xs p} ys r is)

  pub answers-as : {T : Type 0} (flags : Flags) {xs ys : List Answer} (p : Progress) {t' : Translator} {new : Work L R}
      {result : Result T Memory} → xs ≡ ys → Advances told (over flags xs p) t old t' new result
      → Advances told (over flags ys p) t old t' new result
  answers-as flags p is r = rw is at r

  -- whatever value it answers
  valued : {T U : Type 0} {c : Route} {t' : Translator} {new : Work L R} {value : T} (other : U)
      → Advances told c t old t' new (Ok value) → Advances told c t old t' new (Ok other)
  valued other r = advances-named refl (λ P h. h) tt r

-- Answers are read, from where the first of these calls stood; with those that are left they are all.
pub record Advancing {L R : Type 0} (told : R → Option WatchState) (flags : Flags) (all rest : List Answer)
    (p : Progress)
    (t : Translator) (old : Work L R) (t' : Translator) (now : Work L R) : Type 0 where
  pub done : List Answer
  pub reads : Advances {T = Unit {0}} told (over flags done p) t old t' now (Ok tt)
  pub goes : done ++ rest ≡ all

pub advancing-begun : {L R : Type 0} {told : R → Option WatchState} (flags : Flags) (all : List Answer) {t : Translator}
    {work : Work L R} → IsTranslating work.store.now work.names.now t
    → Advancing told flags all all (progress_over work t) t work t work
advancing-begun flags all is = record { done = []; reads = advances-none flags is; goes = refl }

module _ {L R : Type 0} {told : R → Option WatchState} {flags : Flags} {all rest : List Answer} {p : Progress}
    {t t1 : Translator} {old mid : Work L R} where
  pub advancing-next : {T : Type 0} {t2 : Translator} {new : Work L R} (xs next : List Answer) {value : T}
      → Advancing told flags all rest p t old t1 mid → rest ≡ xs ++ next → Advances told
      (over flags xs (progress_over mid t1)) t1 mid t2 new (Ok value) → Advancing told flags all next p t old t2 new
  advancing-next xs next r cut b = record {
    done = r.done ++ xs;
    reads = valued tt (answers-then flags r.done xs p r.reads b);
    goes = append_assoc r.done xs next ∙ (ap (λ list. r.done ++ list) (sym cut) ∙ r.goes);
  }

  pub advancing-stopped : {T U : Type 0} {t2 t3 : Translator} {new : Work L R} (xs next : List Answer) {error : Memory}
      {result : Result U Memory} → Advancing told flags all rest p t old t1 mid → rest ≡ xs ++ next
      → Advances {T = T} told (over flags xs (progress_over mid t1)) t1 mid t2 new (Err error)
      → IsErrAnd result (λ found. found ≡ error) → Advances told (over flags all p) t old t3 new result
  advancing-stopped xs next r cut b is = answers-as flags p (append_assoc r.done xs next ∙ (ap (λ list. r.done ++ list)
      (sym cut) ∙ r.goes)) (answers-stopped flags (r.done ++ xs) next p (answers-then flags r.done xs p r.reads b) is)

  -- the last of several calls
  pub advancing-last : {T : Type 0} {t2 : Translator} {new : Work L R} {result : Result T Memory} → Advancing told flags
      all rest p t old t1 mid → Advances told (over flags rest (progress_over mid t1)) t1 mid t2 new result
      → Advances told (over flags all p) t old t2 new result
  advancing-last r b = answers-as flags p r.goes (answers-then flags r.done rest p r.reads b)

  pub advancing-ended : {T : Type 0} (value : T) → Advancing told flags all rest p t old t1 mid → rest ≡ []
      → Advances told (over flags all p) t old t1 mid (Ok value)
  advancing-ended value r none = grind (arith, answers-as, append-nil, valued)

-- ## A call that ends a text

module _ {L R : Type 0} {told : R → Option WatchState} {t0 : Translator} {old : Work L R} where
  -- answers are read, and then a text ends
  pub ends-then : {T : Type 0} {c : Route} (ys : List Answer) {t : Translator} {mid new : Work L R} {value : T}
      {result : Result Translated Memory} → Advances told c t0 old t mid (Ok value) → EndsIn told (to_end c.flags ys
      (progress_over mid t)) t mid new result → EndsIn told (to_end c.flags ys c.ends) t0 old new result
  ends-then {c = c} ys {t = t} {mid = mid} {new = new} {result = result} a b =
      let done = c.ends.known.ended in
      let fresh = after_answers c.flags ys (progress_over mid t) in
      let more = (all_ended c.flags fresh).known.ended in
      let now = come-behind c.flags t0 t old mid c.ends a.come in
      let all = ap (after_answers c.flags ys) now ∙ behind-answers c.flags done ys (progress_over mid t) in
      subst (λ (text : Ended). EndsIn told (record (to_end c.flags ys c.ends) { text = text }) t0 old new result)
      (sym (ap (all_ended c.flags) all ∙ all-ended-behind c.flags done fresh)) (record {
        text = IfOk-weaker result _ _ (λ value h. record {
          tree = h.tree;
          names_are = h.names_are;
          marks_are = h.marks_are;
          scraps = omega (arith, a.come.scraps, h.scraps, sum_by-append {X = State});
          productions_are = omega (arith, a.come.productions_are, h.productions_are, sum_by-append {X = State});
          steps_are = omega (arith, a.come.steps_are, h.steps_are, sum_by-append {X = State});
        }) b.text;
        few = b.few;
        named = b.named;
        root = b.root;
        keeps = IfOk-weaker result _ _ (λ value k. keeps-trans old.store.now.lists mid.store.now.lists
            new.store.now.lists (all_roots t0.nesting) (all_roots t.nesting) (value.list.index ∷ []) a.keeps k) b.keeps;
        refused = on_err_weaker result (λ h. rw now (way-behind c.flags done ys (progress_over mid t) new.names.now h))
            b.refused;
        recorded = recorded-then c.flags done more a.recorded b.recorded;
        bound = omega (arith, a.bound, b.bound, sum_by-append {X = State});
        same = same-work a.same b.same;
        idle = b.idle;
      })

  -- memory is wanting
  pub ends-refused : {o : Target} {new : Work L R} {error : Memory} {result : Result Translated Memory}
      → IsErrAnd result (λ found. found ≡ error) → o.leaves new.names.now → HasRecorded o.flags o.text.known.ended (told
      old.recorder) (told new.recorder) result → new.steps.now ≤ old.steps.now + limit_in o.flags o.text.known.ended
      → IsSameWork old new → new.store.now.building ≡ None → EndsIn told o t0 old new result
  ends-refused {error = error} {result = result} is names recorded bound same idle = grind (arith, err-if, on-err)

  -- a call that reads is refused, before the text ends
  pub ends-stopped : {T : Type 0} {c : Route} (ys : List Answer) {leaves : List Entry → Type 0} {t : Translator}
      {new : Work L R} {error : Memory} {result : Result Translated Memory} → Advances {T = T} told c t0 old t new
      (Err error) → IsErrAnd result (λ found. found ≡ error) → ((names : List Entry) → c.leaves names → leaves names)
      → EndsIn told (record (to_end c.flags ys c.ends) { leaves = leaves }) t0 old new result
  ends-stopped {c = c} ys {new = new} r is among =
      let p = after_answers c.flags ys c.ends in
      ends-refused is (among new.names.now r.names)
      (recorded-stopped c.flags p.known.ended _ is (recorded-further c.flags ys c.ends is r.recorded))
      (omega (arith, limit-more c.flags ys c.ends, sum_by-append {X = State})) r.same r.idle

  -- the same outcome, said otherwise
  pub ends-as : {o : Target} {text : Ended} {leaves : List Entry → Type 0} {new : Work L R} {result : Result Translated
      Memory} → o.text ≡ text → ((names : List Entry) → o.leaves names → leaves names) → EndsIn told o t0 old new result
      → EndsIn told (record { flags = o.flags; text = text; leaves = leaves }) t0 old new result
  ends-as {o = o} {leaves = leaves} {new = new} {result = result} is among r = grind (arith, on_err_weaker)

  -- answers to the end of a text
  pub ends-answers : {T : Type 0} (flags : Flags) (xs : List Answer) (p : Progress) {t : Translator}
      {mid new : Work L R} {value : T} {result : Result Translated Memory} → Advances told (over flags xs p) t0 old t
      mid (Ok value) → EndsIn told (to_end flags [] (progress_over mid t)) t mid new result
      → EndsIn told (to_end flags xs p) t0 old new result
  ends-answers flags xs p a b = ends-as refl (λ names h. way-end flags xs p (after_answers flags xs p) names refl h)
      (ends-then {c = over flags xs p} [] a b)

  pub ends-answers-stopped : {T : Type 0} (flags : Flags) (xs : List Answer) (p : Progress) {t : Translator} {new : Work
      L R} {error : Memory} {result : Result Translated Memory} → Advances {T = T} told (over flags xs p) t0 old t new
      (Err error) → IsErrAnd result (λ found. found ≡ error) → EndsIn told (to_end flags xs p) t0 old new result
  ends-answers-stopped flags xs p a is = ends-stopped {c = over flags xs p} [] a is (λ names h. rw append-nil at (h []))

  -- a call that counts no step goes before: what it made stands in place of what was open
  pub ends-behind : {o : Target} {t : Translator} {mid new : Work L R} {result : Result Translated Memory}
      → Keeps old.store.now.lists mid.store.now.lists (all_roots t0.nesting) (all_roots t.nesting) → t0.scraps
      ≡ t.scraps → t0.productions ≡ t.productions → mid.steps.now ≡ old.steps.now → mid.recorder ≡ old.recorder
      → IsSameWork old mid → EndsIn told o t mid new result → EndsIn told o t0 old new result
  ends-behind {o = o} {t = t} {mid = mid} {new = new} {result = result} keeps
      scraps productions_are steps recorder same r = grind (arith, keeps-trans, all_roots, same-work)
