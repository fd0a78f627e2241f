-- What is told of texts that end: of none, of one, and of some and then others.
use Rattle.cw_translator.proofs.Terms.{◌≡◌, ◌+◌, ◌≤◌, List, [], ◌∷◌, ◌++◌, length, map, take, Option, refl, ap, ◌∙◌}
use Rattle.cw_translator.proofs.Terms.{arith, Result, Ok, IfOk, IsErrAnd, OnOk, append-nil, length-append, map-append}
use Rattle.cw_translator.proofs.Terms.{take-append-le, take_all, on_ok_weaker, Flags, Memory, Scrap, Production, log}
use Rattle.cw_translator.proofs.Terms.{productions, State, WatchState, grown_by, HasRecorded, begun_over, ended_now}
use Rattle.cw_translator.proofs.Terms.{logged, longer_by, texts_told, append_assoc}
use Rattle.std.proofs.Math.Seq.{take-append-add}
use Rattle.cw_leaves.specs.declared.lines.TextLog.{TextLog}

-- what holds whatever is answered
pub on-ok : {T E : Type 0} (r : Result T E) (P : Type 0) → P → OnOk r P
on-ok r P h = grind arith

-- nothing holds of a value where memory was wanting
pub err-if : {T E : Type 0} (r : Result T E) (error : E) (P : T → Type 0) → IsErrAnd r (λ found. found ≡ error)
    → IfOk r P
err-if r error P h = grind arith

pub err-ok : {T E : Type 0} (r : Result T E) (error : E) (P : Type 0) → IsErrAnd r (λ found. found ≡ error) → OnOk r P
err-ok r error P h = err-if r error (λ x. P) h

longer-none : (texts : Option (List TextLog)) → longer_by [] texts ≡ texts
longer-none texts = grind (arith, append-nil)

longer-more : (xs ys : List TextLog) (texts : Option (List TextLog))
    → longer_by ys (longer_by xs texts) ≡ longer_by (xs ++ ys) texts
longer-more xs ys texts = grind (arith, append_assoc)

-- none has ended
pub recorded-none : {T : Type 0} (flags : Flags) (states : List State) {before told : Option WatchState}
    {result : Result T Memory} → texts_told told ≡ texts_told before → OnOk result (length states ≤ 0)
    → HasRecorded flags states before told result
recorded-none flags states {before = before} same none = grind (arith, longer-none, texts_told)

-- memory was wanting before any ended
pub recorded-unended : {T : Type 0} (flags : Flags) (states : List State) {before told : Option WatchState}
    {result : Result T Memory} {error : Memory} → texts_told told ≡ texts_told before
    → IsErrAnd result (λ found. found ≡ error) → HasRecorded flags states before told result
recorded-unended flags states {result = result} {error} same is = grind (arith, recorded-none, err-ok)

pub recorded-refused : {T : Type 0} (flags : Flags) (states : List State) {before : Option WatchState} {result : Result
    T
    Memory} {error : Memory} → IsErrAnd result (λ found. found ≡ error) → HasRecorded flags states before before result
recorded-refused flags states is = recorded-unended flags states refl is

-- whatever a call answers that goes on behind one that wasn't refused, and one that was
pub recorded-whole : {T U : Type 0} {flags : Flags} {states : List State} {before told : Option WatchState} {value : T}
    (result : Result U Memory) → HasRecorded flags states before told (Ok value)
    → HasRecorded flags states before told result
recorded-whole result r = record { number = r.number; within = r.within; is = r.is; all = on-ok result _ r.all }

pub recorded-stopped : {T U : Type 0} (flags : Flags) (xs ys : List State) {before told : Option WatchState}
    {first : Result T Memory} {result : Result U Memory} {error : Memory} → IsErrAnd result (λ found. found ≡ error)
    → HasRecorded flags xs before told first → HasRecorded flags (xs ++ ys) before told result
recorded-stopped flags xs ys {before = before} {result = result} {error} is r =
    grind (arith, length-append, longer_by, logged, texts_told, take-append-le, err-ok)

pub recorded-error : {T U : Type 0} (flags : Flags) (xs : List State) {before told : Option WatchState}
    {first : Result T Memory} {result : Result U Memory} {error : Memory} → IsErrAnd result (λ found. found ≡ error)
    → HasRecorded flags xs before told first → HasRecorded flags xs before told result
recorded-error flags xs {result = result} {error} is r = grind (arith, err-ok)

-- some, and then others
pub recorded-then : {T U : Type 0} (flags : Flags) (xs ys : List State) {before mid told : Option WatchState} {value :
    T}
    {result : Result U Memory} → HasRecorded flags xs before mid (Ok value) → HasRecorded flags ys mid told result
    → HasRecorded flags (xs ++ ys) before told result
recorded-then flags xs ys {before = before} {result = result} a b =
    let all : take a.number xs ≡ xs = take_all a.number xs a.all in
    let joined : map (logged flags) (take a.number xs) ++ map (logged flags) (take b.number ys)
    ≡ map (logged flags) (take (length xs + b.number) (xs ++ ys)) = rw (all, take-append-add, map-append) in
    record {
      number = length xs + b.number;
      within = omega (arith, length-append xs ys, b.within);
      is = b.is ∙ (ap (longer_by (map (logged flags) (take b.number ys))) a.is
          ∙ (longer-more (map (logged flags) (take a.number xs)) (map (logged flags) (take b.number ys))
          (texts_told before) ∙ ap (λ l. longer_by l (texts_told before)) joined));
      all = on_ok_weaker result (λ h. omega (arith, length-append xs ys, h)) b.all;
    }

-- ## One text

-- it began, and some productions were told
told-texts : (scraps : List Scrap) (items : List Production) (before : Option WatchState)
    → texts_told (grown_by items (begun_over scraps before)) ≡ texts_told before
told-texts scraps items before = grind arith

pub begun-told : (scraps : List Scrap) (items : List Production) (before : Option WatchState) {begun told : Option
    WatchState}
    → begun ≡ begun_over scraps before → told ≡ grown_by items begun → texts_told told ≡ texts_told before
begun-told scraps items before b g = ap texts_told (g ∙ ap (grown_by items) b) ∙ told-texts scraps items before

-- no production is told of it
pub grown-none : (told : Option WatchState) → grown_by [] told ≡ told
grown-none told = grind (arith, append-nil)

ended-texts : (flags : Flags) (state : State) (told : Option WatchState) → texts_told (ended_now (grown_by
    (log productions
    flags state) (begun_over state.scraps told))) ≡ longer_by (logged flags state ∷ []) (texts_told told)
ended-texts flags state told = grind arith

-- it ended, with its whole log
pub recorded-one : {T : Type 0} (flags : Flags) (state : State) {before begun told ended : Option WatchState}
    (result : Result T Memory) → begun ≡ begun_over state.scraps before → told ≡ grown_by (log productions flags state)
    begun → ended ≡ ended_now told → HasRecorded flags (state ∷ []) before ended result
recorded-one flags state {before = before} result b g e =
    grind (arith, texts_told, ended_now, grown_by, log, productions, ended-texts, on-ok)
