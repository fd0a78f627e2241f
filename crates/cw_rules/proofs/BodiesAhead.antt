-- A body that ends before an `@` or a bar which it doesn't take is the same where the text ends there.
use Rattle.std.proofs.Common.{◌++◌, None, codes, length, refl, sym, ap, ◌∙◌, arith, length-append, length-drop, ◌≡◌, ℕ}
use Rattle.std.proofs.Common.{suc, ◌+◌, ◌<◌, ◌≤◌, Bool, true, false, ◌&&◌, ◌||◌, not, ◌==◌, List, [], ◌∷◌}
use Rattle.std.specs.Prelude.{if◌then◌else◌}
use Rattle.std.proofs.{lemmas.Bool.eqb-true, lemmas.Bool.Decides.nat_tests}
use Rattle.cw_base.specs.declared.notes.NoteKind.{NoteKind}
use Rattle.cw_rules.specs.declared.{bodies.Body.Body, bodies.Inside.Inside}
use Rattle.cw_rules.specs.Bytes.{greater, at_sign, begins, begins_with}
use Rattle.cw_rules.specs.Bodies.{stops, takes_next, note_on, stepped, goes_on, ended, note_here, with_note, noted}
use Rattle.cw_rules.specs.Bodies.{closing_bytes, stop_at, extent, all_notes}
use Rattle.cw_rules.proofs.{Inside.ended-some, Inside.ended-le, Sizes.ended-most, Choices.if-both, Ahead.section-same}
use Rattle.cw_rules.proofs.Ahead.{Stop, At, Bar, byte_of, drop-same, begins-before, with-before, begins-same}
use Rattle.cw_rules.specs.declared.bodies.Body.TheVariants as bodies

-- the byte ahead is all that is looked at
takes-near : (body : Body) (b c : ℕ) (xs ys : List ℕ) → takes_next body b (c ∷ xs) ≡ takes_next body b (c ∷ ys)
takes-near x1 b c xs ys = grind (arith, nat_tests)

note-near : (body : Body) (braces b c : ℕ) (xs ys : List ℕ) → note_on body braces b (c ∷ xs)
    ≡ note_on body braces b (c ∷ ys)
note-near x1 braces b c xs ys = grind (arith, nat_tests)

-- an `@` takes the next one along
at-takes : (body : Body) (more : List ℕ) → takes_next body 64 (64 ∷ more) ≡ true
at-takes x1 more = grind (arith, nat_tests)

-- any other byte has the same note, whatever is ahead
note-other : (body : Body) (braces b : ℕ) (xs ys : List ℕ) → (b == at_sign) ≡ false → note_on body braces b xs
    ≡ note_on body braces b ys
note-other x1 braces b xs ys h = grind (arith, nat_tests, nat_tests)

-- a bar ahead says nothing
takes-bar : (more : List ℕ) (body : Body) (b : ℕ) (bs : List ℕ) → takes_next body b (bs ++ 124 ∷ more)
    ≡ takes_next body b bs
takes-bar more x2 b bs = grind (arith, nat_tests, nat_tests, begins-before)

note-bar : (more : List ℕ) (body : Body) (braces b : ℕ) (bs : List ℕ) → note_on body braces b (bs ++ 124 ∷ more)
    ≡ note_on body braces b bs
note-bar more x2 braces b bs = grind (arith, nat_tests, nat_tests, begins-before)

stops-same : (s : Stop) (more : List ℕ) (body : Body) (before b : ℕ) (bs : List ℕ)
    → stops body before b (bs ++ byte_of s ∷ more) ≡ stops body before b bs
stops-same s more x3 before b bs = grind (arith, nat_tests, nat_tests, begins-same, section-same)

pub record SameBody (s : Stop) (more : List ℕ) (i : Inside) (bs : List ℕ) : Type 0 where
  pub place : (ended i (bs ++ byte_of s ∷ more)).place ≡ (ended i bs).place
  pub braces : (ended i (bs ++ byte_of s ∷ more)).braces ≡ (ended i bs).braces
  pub notes : noted i (bs ++ byte_of s ∷ more) ≡ noted i bs

-- a body that goes no further than it is stops there
pub still : (i : Inside) (bs : List ℕ) → (ended i bs).place ≤ i.place → goes_on i bs ≡ false
still i bs h = grind (arith, ended-some)

pub ended-here : (i : Inside) (b : ℕ) (bs : List ℕ) → goes_on i (b ∷ bs) ≡ false → ended i (b ∷ bs) ≡ i
ended-here i b bs h = ap (λ t. if t then ended (stepped i b bs) bs else i) h

pub ended-on : (i : Inside) (b : ℕ) (bs : List ℕ) → goes_on i (b ∷ bs) ≡ true → ended i (b ∷ bs)
    ≡ ended (stepped i b bs) bs
ended-on i b bs h = ap (λ t. if t then ended (stepped i b bs) bs else i) h

pub noted-here : (i : Inside) (b : ℕ) (bs : List ℕ) → goes_on i (b ∷ bs) ≡ false → noted i (b ∷ bs) ≡ []
noted-here i b bs h = ap (λ t. if t then with_note (note_here i b bs) i.place (noted (stepped i b bs) bs) else []) h

pub noted-on : (i : Inside) (b : ℕ) (bs : List ℕ) → goes_on i (b ∷ bs) ≡ true → noted i (b ∷ bs)
    ≡ with_note (note_here i b bs) i.place (noted (stepped i b bs) bs)
noted-on i b bs h = ap (λ t. if t then with_note (note_here i b bs) i.place (noted (stepped i b bs) bs) else []) h

goes-same : (s : Stop) (more : List ℕ) (i : Inside) (b : ℕ) (bs : List ℕ)
    → goes_on i (b ∷ (bs ++ byte_of s ∷ more)) ≡ goes_on i (b ∷ bs)
goes-same s more i b bs = ap (λ t. i.along || not t) (stops-same s more i.body i.before b bs)

-- behind the last byte nothing was taken along, so that byte isn't an `@` that does
last-note : (more : List ℕ) (i : Inside) (b : ℕ) → (not i.along && takes_next i.body b (64 ∷ more)) ≡ false
    → note_here i b (64 ∷ more) ≡ note_here i b []
last-note more i b h = grind (arith, nat_tests, eqb-true, at-takes, note-other)

step-by : (i : Inside) (b : ℕ) (xs ys : List ℕ) → takes_next i.body b xs ≡ takes_next i.body b ys
    → stepped i b xs ≡ stepped i b ys
step-by i b xs ys e = grind (arith, nat_tests)

here-by : (i : Inside) (b : ℕ) (xs ys : List ℕ) → note_on i.body i.braces b xs ≡ note_on i.body i.braces b ys
    → note_here i b xs ≡ note_here i b ys
here-by i b xs ys e = ap (λ n. if i.along then None else n) e

-- behind a byte that takes along, and notes, the same
body-on : (s : Stop) (more : List ℕ) (i : Inside) (b : ℕ) (bs : List ℕ) → takes_next i.body b (bs ++ byte_of s ∷ more)
    ≡ takes_next i.body b bs → note_on i.body i.braces b (bs ++ byte_of s ∷ more) ≡ note_on i.body i.braces b bs
    → ((ended (stepped i b bs) (bs ++ byte_of s ∷ more)).place ≤ (i.place + 1) + length bs → SameBody s more (stepped i
    b bs) bs) → (ended i (b ∷ (bs ++ byte_of s ∷ more))).place ≤ i.place + suc (length bs) → SameBody s more i (b ∷ bs)
body-on s more i b bs takes note rec h = by (goes_on i (b ∷ bs)) refl
  where
    by : (t : Bool) → goes_on i (b ∷ bs) ≡ t → SameBody s more i (b ∷ bs)
    by false e =
        let all = bs ++ byte_of s ∷ more in
        let f = goes-same s more i b bs ∙ e in
        record {
          place = ap (λ (j : Inside). j.place) (ended-here i b all f ∙ sym (ended-here i b bs e));
          braces = ap (λ (j : Inside). j.braces) (ended-here i b all f ∙ sym (ended-here i b bs e));
          notes = noted-here i b all f ∙ sym (noted-here i b bs e);
        }
    by true e =
        let all = bs ++ byte_of s ∷ more in
        let f = goes-same s more i b bs ∙ e in
        let step = step-by i b all bs takes in
        let on = ended-on i b all f ∙ ap (λ j. ended j all) step in
        let cut = ended-on i b bs e in
        let r = rec (omega (arith, h, ap (λ (j : Inside). j.place) on)) in
        record {
          place = ap (λ (j : Inside). j.place) on ∙ r.place ∙ sym (ap (λ (j : Inside). j.place) cut);
          braces = ap (λ (j : Inside). j.braces) on ∙ r.braces ∙ sym (ap (λ (j : Inside). j.braces) cut);
          notes = noted-on i b all f ∙ (λ j. with_note (here-by i b all bs note j) i.place (noted (step j) all))
              ∙ ap (λ l. with_note (note_here i b bs) i.place l) r.notes ∙ sym (noted-on i b bs e);
        }

body-end : (s : Stop) (more : List ℕ) (i : Inside) → (ended i (byte_of s ∷ more)).place ≤ i.place + 0
    → SameBody s more i []
body-end s more i h = grind (arith, nat_tests, still i (byte_of s ∷ more) (omega (arith, h)), byte_of s)

-- the last byte before an `@` doesn't take it along
body-last : (more : List ℕ) (i : Inside) (b : ℕ) → (ended i (b ∷ 64 ∷ more)).place ≤ i.place + 1
    → SameBody At more i (b ∷ [])
body-last more i b h = by (goes_on i (b ∷ [])) refl
  where
    first-false : (a c : Bool) → (a || c) ≡ false → a ≡ false
    first-false a c k = grind (arith, nat_tests)

    by : (t : Bool) → goes_on i (b ∷ []) ≡ t → SameBody At more i (b ∷ [])
    by false e =
        let f = goes-same At more i b [] ∙ e in
        record {
          place = ap (λ (j : Inside). j.place) (ended-here i b (64 ∷ more) f ∙ sym (ended-here i b [] e));
          braces = ap (λ (j : Inside). j.braces) (ended-here i b (64 ∷ more) f ∙ sym (ended-here i b [] e));
          notes = noted-here i b (64 ∷ more) f ∙ sym (noted-here i b [] e);
        }
    by true e =
        let f = goes-same At more i b [] ∙ e in
        let on = ended-on i b (64 ∷ more) f in
        let far : (ended (stepped i b (64 ∷ more)) (64 ∷ more)).place ≤ i.place + 1 =
        omega (arith, h, ap (λ (j : Inside). j.place) on) in
        let stop = still (stepped i b (64 ∷ more)) (64 ∷ more) far in
        let along : (not i.along && takes_next i.body b (64 ∷ more)) ≡ false =
        first-false (not i.along && takes_next i.body b (64 ∷ more)) (not (stops i.body b 64 more)) stop in
        let full = on ∙ ended-here (stepped i b (64 ∷ more)) 64 more stop in
        let cut = ended-on i b [] e in
        record {
          place = ap (λ (j : Inside). j.place) full ∙ sym (ap (λ (j : Inside). j.place) cut);
          braces = ap (λ (j : Inside). j.braces) full ∙ sym (ap (λ (j : Inside). j.braces) cut);
          notes = noted-on i b (64 ∷ more) f ∙ ap (λ l. with_note (note_here i b (64 ∷ more)) i.place l)
              (noted-here (stepped i b (64 ∷ more)) 64 more stop)
              ∙ ap (λ n. with_note n i.place []) (last-note more i b along) ∙ sym (noted-on i b [] e);
        }

at-same : (more : List ℕ) (i : Inside) (bs : List ℕ) → (ended i (bs ++ 64 ∷ more)).place ≤ i.place + length bs
    → SameBody At more i bs
at-same more i [] h = body-end At more i h
at-same more i (b ∷ []) h = body-last more i b h
at-same more i (b ∷ c ∷ bs) h = body-on At more i b (c ∷ bs) (takes-near i.body b c (bs ++ 64 ∷ more) bs)
    (note-near i.body i.braces b c (bs ++ 64 ∷ more) bs) (λ g. at-same more (stepped i b (c ∷ bs)) (c ∷ bs) g) h

bar-same : (more : List ℕ) (i : Inside) (bs : List ℕ) → (ended i (bs ++ 124 ∷ more)).place ≤ i.place + length bs
    → SameBody Bar more i bs
bar-same more i [] h = body-end Bar more i h
bar-same more i (b ∷ bs) h = body-on Bar more i b bs (takes-bar more i.body b bs) (note-bar more i.body i.braces b bs)
    (λ g. bar-same more (stepped i b bs) bs g) h

pub body-same : (s : Stop) (more : List ℕ) (i : Inside) (bs : List ℕ)
    → (ended i (bs ++ byte_of s ∷ more)).place ≤ i.place + length bs → SameBody s more i bs
body-same s more i bs h = grind (arith, at-same, bar-same)

-- a body that goes on over the stop ends before it only where it ends earlier
pub body-inside : (s : Stop) (more : List ℕ) (i : Inside) (bs : List ℕ)
    → ((before : ℕ) → stops i.body before (byte_of s) more ≡ false) → (ended i (bs ++ byte_of s ∷ more)).place ≤ i.place
    + length bs → (ended i (bs ++ byte_of s ∷ more)).place < i.place + length bs
body-inside s more i [] over h =
    let on : goes_on i (byte_of s ∷ more) ≡ true = ap (λ t. i.along || not t) (over i.before) ∙ or-true i.along in
    absurd (omega (arith, ended-some i (byte_of s ∷ more) on))
  where
    or-true : (b : Bool) → (b || true) ≡ true
    or-true b = grind (arith, nat_tests)
body-inside s more i (b ∷ bs) over h = by (goes_on i (b ∷ (bs ++ byte_of s ∷ more))) refl
    (λ g. body-inside s more (stepped i b (bs ++ byte_of s ∷ more)) bs over g)
  where
    by : (t : Bool) → goes_on i (b ∷ (bs ++ byte_of s ∷ more)) ≡ t
        → ((ended (stepped i b (bs ++ byte_of s ∷ more)) (bs ++ byte_of s ∷ more)).place ≤ (i.place + 1) + length bs
        → (ended (stepped i b (bs ++ byte_of s ∷ more)) (bs ++ byte_of s ∷ more)).place < (i.place + 1) + length bs)
        → (ended i (b ∷ (bs ++ byte_of s ∷ more))).place < i.place + suc (length bs)
    by true e rec = let on = ap (λ (j : Inside). j.place) (ended-on i b (bs ++ byte_of s ∷ more) e) in
        omega (arith, on, rec (omega (arith, on)))
    by false e rec = let on = ap (λ (j : Inside). j.place) (ended-here i b (bs ++ byte_of s ∷ more) e) in
        omega (arith, on)

-- ## How far a body goes

-- a quote is not the stop
abbrev pub NoStop : Stop → Body → Type 0
NoStop s (bodies.Quoted q) = (byte_of s == q) ≡ false
NoStop _ _ = Unit {0}

-- the bytes behind an `@` end no control text
abbrev pub IsFree : Stop → List ℕ → Type 0
IsFree At more = begins greater more ≡ false
IsFree Bar _ = Unit {0}

greater-same : (s : Stop) (more bs : List ℕ) → IsFree s more → begins_with (codes "@>") (bs ++ byte_of s ∷ more)
    ≡ begins_with (codes "@>") bs
greater-same x1 more bs g = grind (arith, nat_tests, with-before)

name-ends : (s : Stop) (more bs : List ℕ) → begins_with (codes ">") (bs ++ byte_of s ∷ more)
    ≡ begins_with (codes ">") bs
name-ends x1 more bs = grind (arith, nat_tests, with-before)

closes-same : (s : Stop) (more : List ℕ) (body : Body) (bs : List ℕ) → IsFree s more → NoStop s body
    → begins_with (closing_bytes body) (bs ++ byte_of s ∷ more) ≡ begins_with (closing_bytes body) bs
closes-same s more x3 bs g n = grind (arith, nat_tests, with-before, byte_of, name-ends, greater-same)

pub record SameExtent (s : Stop) (more : List ℕ) (i : Inside) (bs : List ℕ) : Type 0 where
  pub inner : (extent i (bs ++ byte_of s ∷ more)).inner_size ≡ (extent i bs).inner_size
  pub size : (extent i (bs ++ byte_of s ∷ more)).size ≡ (extent i bs).size
  pub closed : (extent i (bs ++ byte_of s ∷ more)).closed ≡ (extent i bs).closed
  pub braces : (ended i (bs ++ byte_of s ∷ more)).braces ≡ (ended i bs).braces
  pub notes : noted i (bs ++ byte_of s ∷ more) ≡ noted i bs
  pub short : (extent i bs).inner_size ≤ length bs

pub inner-le : (i : Inside) (bs : List ℕ) → (extent i bs).inner_size ≤ (extent i bs).size
inner-le i bs = grind (arith, nat_tests, if-both)

pub extent-same : (s : Stop) (more : List ℕ) (i : Inside) (bs : List ℕ) → IsFree s more → NoStop s i.body
    → (extent i (bs ++ byte_of s ∷ more)).size ≤ length bs → SameExtent s more i bs
extent-same s more i bs g n fits =
    grind (arith, nat_tests, byte_of, inner-le, body-same, ended-most, drop-same, closes-same)

pub stop-some : (place : ℕ) (bs : List ℕ) → 0 < length bs → stop_at place bs ≡ place
stop-some place x2 h = grind (arith, nat_tests)

-- the notes of a body that goes on over the stop
pub all_notes-same : (s : Stop) (more : List ℕ) (lost : NoteKind) (i : Inside) (bs : List ℕ) → IsFree s more
    → NoStop s i.body → ((before : ℕ) → stops i.body before (byte_of s) more ≡ false) → (extent i
    (bs ++ byte_of s ∷ more)).size ≤ length bs → all_notes lost i (bs ++ byte_of s ∷ more) ≡ all_notes lost i bs
all_notes-same s more lost i bs g n over fits = grind (
  arith,
  nat_tests,
  byte_of,
  extent-same,
  body-inside,
  inner-le,
  ended-le,
  length-drop,
  length-append,
  stop-some,
)
