-- The loop of the reducer, over a line in its store.
use Rattle.std.proofs.Common.{◌≡◌, ℕ, zero, suc, ◌+◌, ◌-◌, ◌*◌, ◌^◌, ◌<◌, ◌≤◌, true, Some, None, List, [], ◌∷◌, ◌++◌}
use Rattle.std.proofs.Common.{length, drop, take, slice_get, refl, sym, ◌∙◌, ap, arith}
use Rattle.cw_base.specs.declared.flags.Flags.{Flags}
use Rattle.cw_names.specs.Names.{Entry}
use Rattle.cw_table.specs.Fitting.{row_fits, first_of}
use Rattle.cw_table.specs.Normal.{count, log, weight, steps as steps_done}
use Rattle.cw_table.specs.NormalWalk.{walk_left}
use Rattle.cw_table.specs.Productions.{productions}
use Rattle.cw_table.specs.Reaching.{IsAfter}
use Rattle.cw_table.specs.Rewriting.{State, cats_of, rewrite}
use Rattle.cw_table.specs.Safe.{least}
use Rattle.cw_table.specs.WalkCounts.{right_of_new, ticks, reservings}
use Rattle.cw_table.proofs.CountLaws.{ticks-most}
use Rattle.cw_table.proofs.Examples.{productions-sound}
use Rattle.cw_table.specs.SourceNumbers.{numbers_of}
use Rattle.cw_table.proofs.NumberLaws.{steps-numbers}
use Rattle.cw_table.proofs.Normals.{count-weight, count-most}
use Rattle.cw_tokens.specs.Counting.{token_count}
use Rattle.cw_tokens.specs.Stored.{StoredLists}
use Rattle.cw_scraps.specs.declared.line.LineEntry.{LineEntry}
use Rattle.cw_table.specs.Rows.{row_of}
use Rattle.cw_scraps.specs.Applying.{state_of}
use Rattle.cw_scraps.specs.Changing.{Keeps}
use Rattle.cw_scraps.specs.model.Inserting.{entry_cats}
use Rattle.cw_scraps.specs.Lines.{IsSoundLine, scraps_of, roots_of}
use Rattle.cw_scraps.specs.Marking.{MarkList}
use Rattle.cw_scraps.proofs.Applied.{keeps-trans}
use Rattle.cw_scraps.proofs.Productions.{cats-same}
use Rattle.cw_scraps.proofs.Reservings.{length-scraps}
use Rattle.cw_names.specs.Words.{words_of}
use Rattle.cw_rewrite.specs.Reduction.{GrowsByProductions}
use Rattle.cw_rewrite.specs.model.Reduction.{HasNoMore, IsFirst, IsNext, PassesOver}
use Rattle.cw_rewrite.proofs.WalkSteps.{Walks, Rewrites, rewrites, GoesOn, goes-on, WalkEnds, walk-ends, walk-reaches}

-- what holds at each turn; the first values are those with which the reducer was called
pub record InLoop (f : Flags) (line0 : List LineEntry) (store0 : StoredLists) (names0 : List Entry) (marks0 : MarkList)
    (steps0 : ℕ) (line : List LineEntry) (store : StoredLists) (names : List Entry) (marks : MarkList)
    (steps place done : ℕ) : Type 0 where
  pub walks : Walks f (state_of store0.lists line0 marks0 names0) (state_of store.lists line marks names) place done
      steps0 steps
  pub sound : IsSoundLine store names line
  pub keeps : Keeps store0.lists store.lists (roots_of line0) (roots_of line)
  pub words : words_of names ≡ words_of names0
  pub grown : token_count store.lists ≤ token_count store0.lists + 24 * done
  pub short : length line0 < 2 ^ 60

-- what holds wherever the reducer returns
pub record Stops (f : Flags) (line0 : List LineEntry) (store0 : StoredLists) (names0 : List Entry) (marks0 : MarkList)
    (steps0 : ℕ) (line : List LineEntry) (store : StoredLists) (names : List Entry) (marks : MarkList)
    (steps : ℕ) : Type 0 where
  pub after : IsAfter productions f (state_of store0.lists line0 marks0 names0) (state_of store.lists line marks names)
  pub numbers : numbers_of (scraps_of store.lists line) ≡ numbers_of (scraps_of store0.lists line0)
  pub no_more : steps ≤ steps0 + ticks productions f (state_of store0.lists line0 marks0 names0)
  pub bound : steps ≤ steps0 + (132 * length line0 + length line0 * reservings productions f
      (state_of store0.lists line0 marks0 names0))
  pub tokens : GrowsByProductions f (state_of store0.lists line0 marks0 names0) store0.lists
      (state_of store.lists line marks names) store.lists

-- a turn that rewrites
pub record Turn (f : Flags) (line0 : List LineEntry) (store0 : StoredLists) (names0 : List Entry) (marks0 : MarkList)
    (steps0 : ℕ) (line : List LineEntry) (store : StoredLists) (names : List Entry) (marks : MarkList)
    (steps place done number : ℕ) : Type 0 where
  pub heard : take (done + 1) (log productions f (state_of store0.lists line0 marks0 names0))
      ≡ take done (log productions f (state_of store0.lists line0 marks0 names0))
      ++ record { number = number; place = place } ∷ []
  pub there : slice_get (log productions f (state_of store0.lists line0 marks0 names0)) done
      ≡ Some (record { number = number; place = place })
  pub inside : done < count productions f (state_of store0.lists line0 marks0 names0)
  pub reached : state_of store.lists line marks names
      ≡ steps_done productions f done (state_of store0.lists line0 marks0 names0)
  pub fits : row_fits (row_of productions number) (drop place (cats_of (scraps_of store.lists line))) ≡ true
  pub enough : done + 1 < 2 ^ 64
  pub less : (new : State) (back place' : ℕ) → new
      ≡ rewrite f (row_of productions number) place (state_of store.lists line marks names)
      → back ≡ least productions (row_of productions number) → place' ≡ place - back
      → walk_left place' new < walk_left place (state_of store.lists line marks names)
  pub next : (back place' : ℕ) → back ≡ least productions (row_of productions number) → place' ≡ place - back
      → (line' : List LineEntry) (store' : StoredLists) (names' : List Entry) (marks' : MarkList) (steps' : ℕ)
      → state_of store'.lists line' marks' names' ≡ rewrite f (row_of productions number) place
      (state_of store.lists line marks names) → steps' ≡ steps + 4 + right_of_new f (row_of productions number) place
      (state_of store.lists line marks names) → IsSoundLine store' names' line'
      → Keeps store.lists store'.lists (roots_of line) (roots_of line') → words_of names' ≡ words_of names
      → token_count store'.lists ≤ token_count store.lists + 24
      → InLoop f line0 store0 names0 marks0 steps0 line' store' names' marks' steps' place' (done + 1)
  pub refused : (line' : List LineEntry) (store' : StoredLists) (names' : List Entry) (marks' : MarkList) (steps' : ℕ)
      → state_of store'.lists line' marks' names' ≡ state_of store.lists line marks names → store'.lists ≡ store.lists
      → steps' ≡ steps + 4 → Stops f line0 store0 names0 marks0 steps0 line' store' names' marks' steps'

module _ (f : Flags) (line0 : List LineEntry) (store0 : StoredLists) (names0 : List Entry) (marks0 : MarkList)
    (steps0 : ℕ) (line : List LineEntry) (store : StoredLists) (names : List Entry) (marks : MarkList)
    (steps place done : ℕ)
    (h : InLoop f line0 store0 names0 marks0 steps0 line store names marks steps place done) where
  bound-line : ticks productions f (state_of store0.lists line0 marks0 names0) ≤ 132 * length line0 + length line0
      * reservings productions f (state_of store0.lists line0 marks0 names0)
  bound-line = grind (arith, length-scraps, ticks-most, productions-sound)

  numbers-stay : numbers_of (scraps_of store.lists line) ≡ numbers_of (scraps_of store0.lists line0)
  numbers-stay = ap (λ (x : State). numbers_of x.scraps) h.walks.reached ∙ steps-numbers productions f done
      (state_of store0.lists line0 marks0 names0) productions-sound h.walks.start_fine

  grows : GrowsByProductions f (state_of store0.lists line0 marks0 names0) store0.lists
      (state_of store.lists line marks names) store.lists
  grows = record { done = done; within = omega (arith, h.walks.number); is = h.walks.reached; few = h.grown }

  pub turn : (number : ℕ) → place < length line → IsFirst (drop place (entry_cats line)) number
      → Turn f line0 store0 names0 marks0 steps0 line store names marks steps place done number
  turn number inside is =
      let same : drop place (entry_cats line) ≡ drop place (cats_of (scraps_of store.lists line)) =
      ap (drop place) (sym (cats-same store.lists line)) in
      let w : Rewrites f (state_of store0.lists line0 marks0 names0) (state_of store.lists line marks names) place done
      steps0 steps number = rewrites f (state_of store0.lists line0 marks0 names0) (state_of store.lists line marks
      names) place done steps0 steps number h.walks (omega (arith, length-scraps store.lists line)) (record {
        from_one = is.from_one;
        to_last = is.to_last;
        numbered = is.numbered;
        fits = ap (first_of productions) (sym same) ∙ is.fits;
      }) in
      record {
        heard = w.heard;
        there = w.there;
        inside = omega (arith, w.enough);
        reached = h.walks.reached;
        fits = w.fits;
        enough = omega (
          arith,
          w.enough,
          count-most productions f (state_of store0.lists line0 marks0 names0),
          length-scraps store0.lists line0,
          h.short,
        );
        less = λ new back place' e b p. rw (e, p, b) w.less;
        next = λ back place' b p line' store' names' marks' steps' e s sound keeps words more. record {
          walks = rw (s, p, b) (w.next (state_of store'.lists line' marks' names') e);
          sound = sound;
          keeps = keeps-trans store0.lists store.lists store'.lists (roots_of line0) (roots_of line) (roots_of line')
              h.keeps keeps;
          words = words ∙ h.words;
          grown = let before : token_count store.lists ≤ token_count store0.lists + 24 * done = h.grown in omega arith;
          short = h.short;
        };
        refused = λ line' store' names' marks' steps' e kept s. record {
          after = rw e (walk-reaches f (state_of store0.lists line0 marks0 names0)
              (state_of store.lists line marks names) place done steps0 steps h.walks);
          numbers = ap (λ (x : State). numbers_of x.scraps) e ∙ numbers-stay;
          no_more = omega (arith, s, w.room);
          bound = omega (arith, s, w.room, bound-line);
          tokens = rw (e, kept) grows;
        };
      }

  pub passes : (steps' : ℕ) → place < length line → first_of productions (drop place (entry_cats line)) ≡ None
      → steps' ≡ steps + 4 → InLoop f line0 store0 names0 marks0 steps0 line store names marks steps' (place + 1) done
  passes steps' inside none s =
      let g : GoesOn f (state_of store0.lists line0 marks0 names0) (state_of store.lists line marks names) place done
      steps0 steps = goes-on f (state_of store0.lists line0 marks0 names0) (state_of store.lists line marks names) place
      done steps0 steps h.walks (omega (arith, length-scraps store.lists line))
      (ap (λ cs. first_of productions (drop place cs)) (cats-same store.lists line) ∙ none) in
      record {
        walks = rw s g.next;
        sound = h.sound;
        keeps = h.keeps;
        words = h.words;
        grown = h.grown;
        short = h.short;
      }

  pub ends : length line ≤ place → WalkEnds f (state_of store0.lists line0 marks0 names0)
      (state_of store.lists line marks names) done steps0 steps
  ends past = walk-ends f (state_of store0.lists line0 marks0 names0) (state_of store.lists line marks names) place done
      steps0 steps h.walks (omega (arith, length-scraps store.lists line))

  pub stops : length line ≤ place → Stops f line0 store0 names0 marks0 steps0 line store names marks steps
  stops past =
      let e = ends past in
      record {
        after = walk-reaches f (state_of store0.lists line0 marks0 names0)
            (state_of store.lists line marks names) place done steps0 steps h.walks;
        numbers = numbers-stay;
        no_more = omega (arith, e.ticked);
        bound = omega (arith, e.ticked, bound-line);
        tokens = grows;
      }

  -- the productions are at most the weight, and at most eight for each scrap
  pub light : length line ≤ place → done ≤ weight (scraps_of store0.lists line0)
  light past = omega (arith, (ends past).number, count-weight productions f (state_of store0.lists line0 marks0 names0))

  pub few : length line ≤ place → done ≤ 8 * length line0
  few past = grind (arith, ends, count-most, length-scraps)

-- over as many places at which no row fits
pub passes-by : (n : ℕ) (f : Flags) (line0 : List LineEntry) (store0 : StoredLists) (names0 : List Entry) (marks0
    : MarkList) (steps0 : ℕ) (line : List LineEntry) (store : StoredLists) (names : List Entry) (marks : MarkList)
    (steps place done : ℕ) → InLoop f line0 store0 names0 marks0 steps0 line store names marks steps place done → ((k
    : ℕ) → place ≤ k → k < place + n → (k < length line) × (first_of productions (drop k (entry_cats line)) ≡ None))
    → InLoop f line0 store0 names0 marks0 steps0 line store names marks (steps + 4 * n) (place + n) done
passes-by zero f line0 store0 names0 marks0 steps0 line store names marks steps place done h none = grind arith
passes-by (suc n) f line0 store0 names0 marks0 steps0 line store names marks steps place done h none =
    let before : InLoop f line0 store0 names0 marks0 steps0 line store names marks (steps + 4 * n) (place + n) done =
    passes-by n f line0 store0 names0 marks0 steps0 line store names marks steps place done h
    (λ k from to. none k from (omega arith)) in
    let here : (place + n < length line) × (first_of productions (drop (place + n) (entry_cats line)) ≡ None) =
    none (place + n) (omega arith) (omega arith) in
    let one : place + suc n ≡ place + n + 1 = omega arith in
    rw one (passes f line0 store0 names0 marks0 steps0 line store names marks (steps + 4 * n) (place + n) done before
    (steps + 4 * suc n) here.0 here.1 (omega arith))

pub passes-over : (f : Flags) (line0 : List LineEntry) (store0 : StoredLists) (names0 : List Entry) (marks0 : MarkList)
    (steps0 : ℕ) (line : List LineEntry) (store : StoredLists) (names : List Entry) (marks : MarkList)
    (steps place done place' steps' : ℕ) → InLoop f line0 store0 names0 marks0 steps0 line store names marks steps place
    done → PassesOver line place steps place' steps'
    → InLoop f line0 store0 names0 marks0 steps0 line store names marks steps' place' done
passes-over f line0 store0 names0 marks0 steps0 line store names marks steps place done place' steps' h over =
    let by : InLoop f line0 store0 names0 marks0 steps0 line store names marks (steps + 4 * (place' - place))
    (place + (place' - place)) done = passes-by (place' - place) f line0 store0 names0 marks0 steps0 line store names
    marks steps place done h (λ k from less. over.none k from (omega (arith, over.on))) in
    let to : place + (place' - place) ≡ place' = omega (arith, over.on) in
    rw (to, sym over.counted) at by

-- the turn at the next place where a row fits, and the end behind the last one
pub turn-next : {f : Flags} {line0 : List LineEntry} {store0 : StoredLists} {names0 : List Entry} {marks0 : MarkList}
    {steps0 : ℕ} {line : List LineEntry} {store : StoredLists} {names : List Entry} {marks : MarkList}
    {steps place done place' number steps' : ℕ} → InLoop f line0 store0 names0 marks0 steps0 line store names marks
    steps place done → (next : IsNext line place steps place' number steps')
    → Turn f line0 store0 names0 marks0 steps0 line store names marks next.before place' done number
turn-next h next = turn _ _ _ _ _ _ _ _ _ _ _ _ _
    (passes-over _ _ _ _ _ _ _ _ _ _ _ _ _ _ _ h next.passed) _ next.inside next.first

-- where the production at the next place isn't done
pub not-done : {f : Flags} {line0 : List LineEntry} {store0 : StoredLists} {names0 : List Entry} {marks0 : MarkList}
    {steps0 : ℕ} {line : List LineEntry} {store : StoredLists} {names : List Entry} {marks : MarkList}
    {steps place done place' number steps' : ℕ} → InLoop f line0 store0 names0 marks0 steps0 line store names marks
    steps place done → IsNext line place steps place' number steps' → (line' : List LineEntry) → line' ≡ line
    → Stops f line0 store0 names0 marks0 steps0 line' store names marks steps'
not-done {store = store} {names} {marks} h next line' same = (turn-next h next).refused line' store names marks _
    (ap (λ l. state_of store.lists l marks names) same) refl next.counted

pub at-end : {f : Flags} {line0 : List LineEntry} {store0 : StoredLists} {names0 : List Entry} {marks0 : MarkList}
    {steps0 : ℕ} {line : List LineEntry} {store : StoredLists} {names : List Entry} {marks : MarkList}
    {steps place done steps' : ℕ} → InLoop f line0 store0 names0 marks0 steps0 line store names marks steps place done
    → (more : HasNoMore line place steps steps')
    → InLoop f line0 store0 names0 marks0 steps0 line store names marks steps' more.end done
at-end h more = passes-over _ _ _ _ _ _ _ _ _ _ _ _ _ _ _ h more.passed
