-- The walk of the reducer.
use Rattle.std.proofs.Common.{◌≡◌, ℕ, zero, suc, ◌+◌, ◌-◌, ◌<◌, ◌≤◌, true, Option, Some, None, List, [], ◌∷◌, length}
use Rattle.std.proofs.Common.{◌++◌, drop, take, get_or, slice_get, unwrap_or, IfSome, MatchOption, refl, sym, ◌∙◌, ap}
use Rattle.std.proofs.Common.{arith}
use Rattle.std.specs.List.{list_all}
use Rattle.std.specs.Option.{option_map}
use Rattle.cw_base.specs.declared.category.Cat.{Cat}
use Rattle.cw_base.specs.declared.flags.Flags.{Flags}
use Rattle.cw_names.specs.Names.{Entry, with_category}
use Rattle.cw_trees.specs.Tree.{Search}
use Rattle.cw_table.specs.declared.productions.TheConstants.{ROW_COUNT}
use Rattle.cw_table.specs.declared.types.Row.{Row}
use Rattle.cw_table.specs.declared.types.RowNo.{RowNo}
use Rattle.cw_table.specs.Fitting.{row_fits, first_of, window_of}
use Rattle.cw_table.specs.Normal.{At, next_place, normal, count, log, steps, weight, is_fine}
use Rattle.cw_table.specs.NormalWalk.{walk_left}
use Rattle.cw_table.specs.Productions.{productions}
use Rattle.cw_table.specs.Reaching.{IsAfter}
use Rattle.cw_table.specs.Rewriting.{State, cats_of, rewrite}
use Rattle.cw_table.specs.Rows.{no_row, row_numbered, row_of}
use Rattle.cw_table.specs.Safe.{least}
use Rattle.cw_table.specs.WalkCounts.{right_of_new, ticks_from, ticks}
use Rattle.cw_table.proofs.CountLaws.{ticks-end, ticks-past, ticks-taken, none-below-next}
use Rattle.cw_table.proofs.Examples.{productions-sound, productions-numbered}
use Rattle.cw_table.proofs.FirstLaws.{first-window}
use Rattle.cw_table.proofs.Normals.{normal-none, normal-step, count-none, count-step, count-weight}
use Rattle.cw_table.proofs.Joining.{productions-length}
use Rattle.cw_table.proofs.Numbers.{first-numbered, numbered-row}
use Rattle.cw_table.proofs.ScrapFacts.{cats-length}
use Rattle.cw_table.proofs.StepLaws.{steps-next, is-after}
use Rattle.cw_table.proofs.WalkLaws.{NoneBelow, Turns, turning, next-nowhere}
use Rattle.cw_scraps.specs.declared.line.LineEntry.{LineEntry}
use Rattle.cw_scraps.specs.Applying.{retyped}
use Rattle.cw_scraps.specs.model.Inserting.{entry_cats}
use Rattle.cw_scraps.specs.Lines.{no_entry}
use Rattle.cw_scraps.proofs.FirstRows.{window-line}
use Rattle.cw_names.specs.Words.{words_of}
use Rattle.cw_rewrite.specs.model.Reduction.{IsFirst}
use Rattle.cw_rewrite.proofs.LogSteps.{heard-more, heard-next, numbered-number}

-- the number that the window gives is that of the first row that fits
abbrev number_of : Option Row → Option RowNo
number_of o = option_map (λ row. row.number) o

abbrev pub first_fits : List Cat → Option RowNo → Type 0
first_fits cats o = MatchOption o (first_of productions cats ≡ None) (λ row. IsFirst cats row.number)

first-is : (cats : List Cat) (o : Option RowNo) (first : Option Row) → first_of productions cats ≡ first → o
    ≡ number_of first → IfSome o (λ row. 1 ≤ row.number) → IfSome o (λ row. row.number ≤ ROW_COUNT) → first_fits cats o
first-is cats None None found is one last = found
first-is cats None (Some row) found is one last = absurd cc
first-is cats (Some n) None found is one last = absurd cc
first-is cats (Some n) (Some row) found is one last =
    let same : n ≡ row.number = cc in
    let numbered : row_numbered productions n.number ≡ Some row = ap (λ (m : RowNo). row_numbered productions m.number)
    same ∙ (first-numbered productions 1 cats row productions-numbered found).1 in
    let row_is : row_of productions n.number ≡ row = ap (λ (x : Option Row). unwrap_or x no_row) numbered in
    record {
      from_one = one;
      to_last = last;
      numbered = numbered ∙ ap Some (sym row_is);
      fits = found ∙ ap Some (sym row_is);
    }

pub first-line : (line : List LineEntry) (place : ℕ) (window : List Cat) (o : Option RowNo) → window ≡ window_of
    (drop place (entry_cats line)) → o ≡ number_of (first_of productions window) → IfSome o (λ row. 1 ≤ row.number)
    → IfSome o (λ row. row.number ≤ ROW_COUNT) → first_fits (drop place (entry_cats line)) o
first-line line place window o w is one last = first-is (drop place (entry_cats line)) o
    (first_of productions (drop place (entry_cats line))) refl (is ∙ ap number_of (ap (first_of productions) w
    ∙ first-window productions (drop place (entry_cats line)) productions-sound)) one last

-- no row fits where no window that begins with the two categories there has one
pub none-line : (line : List LineEntry) (place : ℕ) (first second : Cat) → first ≡ (get_or line place no_entry).cat
    → second ≡ (get_or line (place + 1) no_entry).cat → ((third fourth : Cat) → first_of productions
    (first ∷ second ∷ third ∷ fourth ∷ []) ≡ None) → first_of productions (drop place (entry_cats line)) ≡ None
none-line line place first second a b none =
    grind (arith, first-window productions (drop place (entry_cats line)) productions-sound, window-line line place)

-- the least safe distance of a number is that of its row
pub least-row : (n distance : ℕ) → 1 ≤ n → n ≤ ROW_COUNT → IfSome (row_numbered productions n)
    (λ row. distance ≡ least productions row) → distance ≡ least productions (row_of productions n)
least-row n distance one last is = go (row_numbered productions n)
    (numbered-row productions productions n no_row refl refl one (omega (arith, productions-length))) is
  where
    go : {row : Row} (o : Option Row) → o ≡ Some row → IfSome o (λ row. distance ≡ least productions row) → distance
        ≡ least productions (unwrap_or o no_row)
    go None e is = absurd cc
    go (Some row) e is = is

-- a change of category keeps the words
words-with : (n : ℕ) (cat : Cat) (names : List Entry) → words_of (with_category n cat names) ≡ words_of names
words-with n cat [] = refl
words-with zero cat (e ∷ names) = refl
words-with (suc n) cat (e ∷ names) = ap (λ ws. (e.kind, e.text) ∷ ws) (words-with n cat names)

pub words-retyped : (s : Search) (names : List Entry) → words_of (retyped s names) ≡ words_of names
words-retyped s names = grind (arith, words-with)

-- What the walk has done so far: the productions, and the steps counted.
pub record Walks (f : Flags) (start now : State) (place done first spent : ℕ) : Type 0 where
  pub start_fine : list_all is_fine start.scraps ≡ true
  pub fine : list_all is_fine now.scraps ≡ true
  pub below : NoneBelow productions now place
  pub reached : now ≡ steps productions f done start
  pub number : done + count productions f now ≡ count productions f start
  pub same : normal productions f now ≡ normal productions f start
  pub ticked : spent + ticks_from productions f place now ≡ first + ticks productions f start

pub walk-starts : (f : Flags) (start : State) (first : ℕ) → list_all is_fine start.scraps ≡ true
    → Walks f start start 0 0 first first
walk-starts f start first fine = grind arith

-- a turn that rewrites
pub record Rewrites (f : Flags) (start now : State) (place done first spent number : ℕ) : Type 0 where
  pub heard : take (done + 1) (log productions f start)
      ≡ take done (log productions f start) ++ record { number = number; place = place } ∷ []
  pub there : slice_get (log productions f start) done ≡ Some (record { number = number; place = place })
  pub fits : row_fits (row_of productions number) (drop place (cats_of now.scraps)) ≡ true
  pub enough : done + 1 ≤ count productions f start
  pub less : walk_left (place - least productions (row_of productions number))
      (rewrite f (row_of productions number) place now) < walk_left place now
  pub room : spent + 4 ≤ first + ticks productions f start
  pub next : (new : State) → new ≡ rewrite f (row_of productions number) place now
      → Walks f start new (place - least productions (row_of productions number)) (done + 1) first
      (spent + 4 + right_of_new f (row_of productions number) place now)

pub rewrites : (f : Flags) (start now : State) (place done first spent number : ℕ)
    → Walks f start now place done first spent → place < length now.scraps
    → IsFirst (drop place (cats_of now.scraps)) number → Rewrites f start now place done first spent number
rewrites f start now place done first spent number w inside is =
    let r : Row = row_of productions number in
    let t : Turns productions f now place (row_of productions number) =
    turning productions f now place (row_of productions number) productions-sound w.fine w.below inside is.fits in
    let one : count productions f now ≡ suc (count productions f (rewrite f (row_of productions number) place now)) =
    count-step productions f now place (row_of productions number) productions-sound w.fine t.next in
    let tick : ticks_from productions f place now ≡ 4 + (right_of_new f (row_of productions number) place now
    + ticks_from productions f (place - least productions (row_of productions number))
    (rewrite f (row_of productions number) place now)) = ticks-taken productions f place now
    (row_of productions number) productions-sound w.fine inside t in
    let at : next_place productions (steps productions f done start) ≡ At place (row_of productions number) =
    ap (next_place productions) (sym w.reached) ∙ t.next in
    let before : done < weight start.scraps = omega (arith, one, w.number, count-weight productions f start) in
    let own : (row_of productions number).number.number ≡ number = numbered-number productions number is.numbered in
    record {
      heard = heard-more f start (row_of productions number) place done number before at own;
      there = heard-next f start (row_of productions number) place done number before at own;
      fits = t.takes.fits;
      enough = omega (arith, one, w.number);
      less = t.less;
      room = omega (arith, tick, w.ticked);
      next = λ new e. record {
        start_fine = w.start_fine;
        fine = ap (λ (x : State). list_all is_fine x.scraps) e ∙ t.takes.falls.fine;
        below = rw e t.below;
        reached = e ∙ ap (rewrite f (row_of productions number) place) w.reached ∙ sym (steps-next productions f done
            place (row_of productions number) start (ap (next_place productions) (sym w.reached) ∙ t.next))
            ∙ ap (λ n. steps productions f n start) (let more : suc done ≡ done + 1 = omega arith in more);
        number = omega (arith, one, w.number, ap (count productions f) e);
        same = ap (normal productions f) e ∙ sym (normal-step productions f now place (row_of productions number)
            productions-sound w.fine t.next) ∙ w.same;
        ticked = rw e (let k : spent + 4 + right_of_new f (row_of productions number) place now + ticks_from productions
            f (place - least productions (row_of productions number)) (rewrite f (row_of productions number) place now)
            ≡ first + ticks productions f start = omega (arith, tick, w.ticked) in k);
      };
    }

-- a turn that goes on
pub record GoesOn (f : Flags) (start now : State) (place done first spent : ℕ) : Type 0 where
  pub less : walk_left (place + 1) now < walk_left place now
  pub next : Walks f start now (place + 1) done first (spent + 4)

pub goes-on : (f : Flags) (start now : State) (place done first spent : ℕ) → Walks f start now place done first spent
    → place < length now.scraps → first_of productions (drop place (cats_of now.scraps)) ≡ None
    → GoesOn f start now place done first spent
goes-on f start now place done first spent w inside none =
    let tick : ticks_from productions f place now ≡ 4 + ticks_from productions f (suc place) now =
    ticks-past productions f place now productions-sound w.fine w.below inside none in
    let more : suc place ≡ place + 1 = omega arith in
    let more_ticks : ticks_from productions f (suc place) now ≡ ticks_from productions f (place + 1) now =
    ap (λ n. ticks_from productions f n now) more in
    record {
      less = omega arith;
      next = record {
        start_fine = w.start_fine;
        fine = w.fine;
        below = λ k less. none-below-next productions now place w.below none k (omega arith);
        reached = w.reached;
        number = w.number;
        same = w.same;
        ticked = omega (arith, tick, more_ticks, w.ticked);
      };
    }

-- the end
pub record WalkEnds (f : Flags) (start now : State) (done first spent : ℕ) : Type 0 where
  pub normal : now ≡ normal productions f start
  pub number : done ≡ count productions f start
  pub ticked : spent ≡ first + ticks productions f start

pub walk-ends : (f : Flags) (start now : State) (place done first spent : ℕ) → Walks f start now place done first spent
    → length now.scraps ≤ place → WalkEnds f start now done first spent
walk-ends f start now place done first spent w past =
    grind (arith, cats-length, next-nowhere, normal-none, count-none, ticks-end)

-- wherever it stops, the state is one that the productions reach
pub walk-reaches : (f : Flags) (start now : State) (place done first spent : ℕ)
    → Walks f start now place done first spent → IsAfter productions f start now
walk-reaches f start now place done first spent w = grind (arith, is-after, productions-sound)
