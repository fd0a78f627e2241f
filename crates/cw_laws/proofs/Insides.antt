-- How many bytes come before the end of a control text, of a section name, and of a piece of a comment.
use Rattle.std.proofs.Common.{◌≡◌, ℕ, ◌+◌, ◌-◌, Bool, true, false, ◌&&◌, ◌||◌, not, ◌==◌, List, [], ◌∷◌, ◌++◌, drop}
use Rattle.std.proofs.Common.{if◌then◌else◌, refl, sym, subst, ap, ◌∙◌, ◌<◌, ◌⊎◌, arith, inl, inr, Option, Some, None}
use Rattle.std.proofs.Common.{length}
use Rattle.std.proofs.lemmas.Bool.Decides.{nat_tests}
use Rattle.cw_base.specs.declared.notes.NoteKind.{NoteKind}
use Rattle.cw_rules.specs.declared.{bodies.Body.Body, bodies.Inside.Inside, bodies.NoteAt.NoteAt, codes.Code.Code}
use Rattle.cw_rules.specs.declared.{tokens.Mode.Mode, tokens.TokKind.TokKind}
use Rattle.cw_rules.specs.{Answers.Answer, Answers.note_answers, Bytes.at_sign, Bytes.greater, Bytes.begins}
use Rattle.cw_rules.specs.{Bytes.begins_with, Codes.begins_section, Tokens.comment_kind, Tokens.section_name}
use Rattle.cw_rules.specs.Bodies.{stops, takes_next, stepped, goes_on, ended, and_last, note_unless, at_start, extent}
use Rattle.cw_rules.specs.Bodies.{noted, note_here, note_on, is_single, with_note, all_notes, closing_bytes, one_note}
use Rattle.cw_laws.specs.Ends.{begins_two, before_end, ends_control, is_double_at, ends_piece, is_pair, ends_name}
use Rattle.cw_laws.specs.Ends.{is_single_at, before_single, IsNoted, HasControlText, HasName, is_closed, closed_size}
use Rattle.cw_laws.{specs.Ends.piece_size, specs.Ends.bars_begin, specs.Ends.IsPieceIn, proofs.Strings.step-size}
use Rattle.cw_rules.specs.declared.bodies.Body.TheVariants as bodies

-- the ends and the pairs of a body, said of the bytes
record Rules (body : Body) (ends pairs : List ℕ → Bool) : Type 0 where
  stop : (before byte : ℕ) (bytes : List ℕ) → stops body before byte bytes ≡ ends (byte ∷ bytes)
  takes : (byte : ℕ) (bytes : List ℕ) → takes_next body byte bytes ≡ pairs (byte ∷ bytes)

module _ (body : Body) (ends pairs : List ℕ → Bool) (r : Rules body ends pairs) where
  goes : (i : Inside) (byte : ℕ) (bytes : List ℕ) → i.body ≡ body → i.along ≡ false
      → goes_on i (byte ∷ bytes) ≡ not (ends (byte ∷ bytes))
  goes i byte bytes b a = (λ k. a k || not (stops (b k) i.before byte bytes)) ∙ ap not (r.stop i.before byte bytes)

  along : (i : Inside) (byte : ℕ) (bytes : List ℕ) → i.body ≡ body → i.along ≡ false
      → (stepped i byte bytes).along ≡ pairs (byte ∷ bytes)
  along i byte bytes b a = (λ k. not (a k) && takes_next (b k) byte bytes) ∙ r.takes byte bytes

  size-in : Inside → List ℕ → ℕ
  size-in i bytes = (ended i bytes).place - i.place

  none : (i : Inside) (byte : ℕ) (bytes : List ℕ) → goes_on i (byte ∷ bytes) ≡ false
      → (ended i (byte ∷ bytes)).place - i.place ≡ 0
  none i byte bytes h =
      let same : ended i (byte ∷ bytes) ≡ i = grind (arith, nat_tests) in
      omega (arith, ap (λ (j : Inside). j.place) same)

  nothing : (i : Inside) → (ended i []).place - i.place ≡ 0
  nothing i = omega arith

  before-size : (i : Inside) (bytes : List ℕ) → i.body ≡ body → i.along ≡ false
      → (ended i bytes).place - i.place ≡ before_end ends pairs bytes
  before-size i [] b a = nothing i
  before-size i (x ∷ []) b a = by (ends (x ∷ [])) refl
    where
      by : (e : Bool) → ends (x ∷ []) ≡ e → (ended i (x ∷ [])).place - i.place ≡ (if e then 0 else 1)
      by e k = grind (arith, nat_tests, none, goes, step-size, nothing)
  before-size i (x ∷ y ∷ ys) b a = by (ends (x ∷ y ∷ ys)) (pairs (x ∷ y ∷ ys)) refl refl (λ e. before-size
      (stepped i x (y ∷ ys)) (y ∷ ys) b e) (λ e. before-size (stepped (stepped i x (y ∷ ys)) y ys) ys b e)
    where
      one : Inside
      one = stepped i x (y ∷ ys)

      taken : one.along ≡ true → goes_on one (y ∷ ys) ≡ true
      taken e = ap (λ t. t || not (stops i.body x y ys)) e

      then-free : one.along ≡ true → (stepped one y ys).along ≡ false
      then-free e = ap (λ t. not t && takes_next i.body y ys) e

      by : (e p : Bool) → ends (x ∷ y ∷ ys) ≡ e → pairs
          (x ∷ y ∷ ys) ≡ p → (one.along ≡ false → (ended one (y ∷ ys)).place - one.place ≡ before_end ends pairs
          (y ∷ ys)) → ((stepped one y ys).along ≡ false → (ended (stepped one y ys) ys).place -
          (stepped one y ys).place ≡ before_end ends pairs ys) → (ended i (x ∷ y ∷ ys)).place - i.place
          ≡ (if e then 0 else if p then 2 + before_end ends pairs ys else 1 + before_end ends pairs (y ∷ ys))
      by true p k l rest behind = none i x (y ∷ ys) (goes i x (y ∷ ys) b a ∙ ap not k)
      by false true k l rest behind =
          let al : one.along ≡ true = along i x (y ∷ ys) b a ∙ l in
          omega (
            arith,
            step-size i x (y ∷ ys) (goes i x (y ∷ ys) b a ∙ ap not k),
            step-size one y ys (taken al),
            behind (then-free al),
          )
      by false false k l rest behind = step-size i x (y ∷ ys) (goes i x (y ∷ ys) b a ∙ ap not k)
          ∙ ap (λ n. 1 + n) (rest (along i x (y ∷ ys) b a ∙ l))

control-rules : Rules bodies.ControlText ends_control is_double_at
control-rules = record { stop = λ before byte bytes. refl; takes = λ byte bytes. refl }

name-rules : Rules bodies.SectionName ends_name (begins at_sign)
name-rules = record {
  stop = λ before byte bytes. by (byte == at_sign) (begins greater bytes) (begins_section bytes);
  takes = λ byte bytes. refl;
}
  where
    by : (t a b : Bool) → (t && (a || b)) ≡ ((t && a) || (t && b))
    by t a b = grind (arith, nat_tests)

piece-rules : (long deep : Bool) → Rules (bodies.Piece long deep) (ends_piece long (not deep)) (is_pair long)
piece-rules long deep = record { stop = λ before byte bytes. refl; takes = λ byte bytes. refl }

abbrev piece_at : Bool → Bool → ℕ → ℕ → Inside
piece_at long deep braces place =
    record { body = bodies.Piece long deep; braces = braces; place = place; before = 0; along = false }

piece-is : (long deep bars : Bool) (braces place : ℕ) (bytes : List ℕ) → bars ≡ not deep
    → (extent (piece_at long deep braces place) bytes).size ≡ piece_size long bars bytes
piece-is long deep bars braces place bytes h = and-none ((ended (piece_at long deep braces place) bytes).place - place)
    ∙ before-size (bodies.Piece long deep) (ends_piece long (not deep)) (is_pair long) (piece-rules long deep)
    (piece_at long deep braces place) bytes refl refl ∙ ap (λ b. piece_size long b bytes) (sym h)
  where
    and-none : (n : ℕ) → n + 0 ≡ n
    and-none n = omega arith

pub piece-whole : (mode : Mode) (long deep : Bool) (braces place : ℕ) (bytes : List ℕ) (rest : List TokKind)
    → bars_begin mode (comment_kind long ∷ rest) ≡ not deep
    → IsPieceIn mode (comment_kind long ∷ rest) bytes (extent (piece_at long deep braces place) bytes).size
piece-whole mode true deep braces place bytes rest h = piece-is true deep _ braces place bytes h
piece-whole mode false deep braces place bytes rest h = piece-is false deep _ braces place bytes h

-- ## The texts of codes

two-with : (first second : ℕ) (bytes : List ℕ) → begins_with (first ∷ second ∷ []) bytes ≡ begins_two first second bytes
two-with first second (x ∷ y ∷ ys) = by (x == first) (y == second)
  where
    by : (a b : Bool) → (a && (b && true)) ≡ (a && b)
    by a b = grind (arith, nat_tests)
two-with first second _ = refl

noted-behind : (kind : NoteKind) (ns : List NoteAt) (n : NoteAt) (later : List Answer) → n.kind ≡ kind
    → IsNoted kind (note_answers (ns ++ n ∷ []) ++ later)
noted-behind kind [] n later e = inl e
noted-behind kind (m ∷ ns) n later e = inr (noted-behind kind ns n later e)

unended-noted : (kind : NoteKind) (ns : List NoteAt) (closed : Bool) (stop : ℕ) (later : List Answer) → closed ≡ false
    → IsNoted kind (note_answers (and_last ns (note_unless closed kind stop)) ++ later)
unended-noted kind ns closed stop later e = grind (arith, nat_tests, noted-behind)

-- ## A single `@`

abbrev HasNote : NoteKind → List NoteAt → Type 0
HasNote kind [] = ⊥
HasNote kind (n ∷ ns) = (n.kind ≡ kind) ⊎ HasNote kind ns

with-behind : (kind : NoteKind) (o : Option NoteKind) (place : ℕ) (ns : List NoteAt) → HasNote kind ns
    → HasNote kind (with_note o place ns)
with-behind kind None place ns h = h
with-behind kind (Some other) place ns h = inr h

noted-step : (i : Inside) (byte : ℕ) (bytes : List ℕ) → goes_on i (byte ∷ bytes) ≡ true
    → noted i (byte ∷ bytes) ≡ with_note (note_here i byte bytes) i.place (noted (stepped i byte bytes) bytes)
noted-step i byte bytes h =
    ap (λ t. if t then with_note (note_here i byte bytes) i.place (noted (stepped i byte bytes) bytes) else []) h

behind-step : (kind : NoteKind) (i : Inside) (byte : ℕ) (bytes : List ℕ) → goes_on i (byte ∷ bytes) ≡ true
    → HasNote kind (noted (stepped i byte bytes) bytes) → HasNote kind (noted i (byte ∷ bytes))
behind-step kind i byte bytes h k = subst (HasNote kind) (sym (noted-step i byte bytes h))
    (with-behind kind (note_here i byte bytes) i.place (noted (stepped i byte bytes) bytes) k)

-- a body in which a single `@` is noted so
abbrev NotesSingle : Body → NoteKind → Type 0
NotesSingle body kind = (braces byte : ℕ) (bytes : List ℕ)
    → note_on body braces byte bytes ≡ (if is_single byte bytes then Some kind else None)

module _ (body : Body) (ends pairs : List ℕ → Bool) (r : Rules body ends pairs) (kind : NoteKind)
    (notes : NotesSingle body kind) where
  here-step : (i : Inside) (byte : ℕ) (bytes : List ℕ) → i.body ≡ body → i.along ≡ false
      → goes_on i (byte ∷ bytes) ≡ true → is_single byte bytes ≡ true → HasNote kind (noted i (byte ∷ bytes))
  here-step i byte bytes b a h s = subst (HasNote kind) (sym (noted-step i byte bytes h
      ∙ ap (λ o. with_note o i.place (noted (stepped i byte bytes) bytes)) here)) (inl refl)
    where
      here : note_here i byte bytes ≡ Some kind
      here = grind (arith, nat_tests)

  on : (i : Inside) (byte : ℕ) (bytes : List ℕ) → i.body ≡ body → i.along ≡ false → ends (byte ∷ bytes) ≡ false
      → goes_on i (byte ∷ bytes) ≡ true
  on i byte bytes b a k = goes body ends pairs r i byte bytes b a ∙ ap not k

  single-noted : (i : Inside) (bytes : List ℕ) → i.body ≡ body → i.along ≡ false
      → before_single ends pairs bytes < before_end ends pairs bytes → HasNote kind (noted i bytes)
  single-noted i [] b a less = absurd (omega (arith, less))
  single-noted i (x ∷ []) b a less = by (ends (x ∷ [])) (is_single_at (x ∷ [])) refl refl less
    where
      by : (e s : Bool) → ends (x ∷ []) ≡ e → is_single_at (x ∷ []) ≡ s
          → (if e || s then 0 else 1) < (if e then 0 else 1) → HasNote kind (noted i (x ∷ []))
      by e s k l less = grind (arith, nat_tests, here-step, on)
  single-noted i (x ∷ y ∷ ys) b a less = by (ends (x ∷ y ∷ ys)) (is_single_at (x ∷ y ∷ ys))
      (pairs (x ∷ y ∷ ys)) refl refl refl less (λ e. single-noted (stepped i x (y ∷ ys)) (y ∷ ys) b e)
      (λ e. single-noted (stepped (stepped i x (y ∷ ys)) y ys) ys b e)
    where
      one : Inside
      one = stepped i x (y ∷ ys)

      by : (e s p : Bool) → ends (x ∷ y ∷ ys) ≡ e → is_single_at (x ∷ y ∷ ys) ≡ s → pairs (x ∷ y ∷ ys) ≡ p → (if e || s
          then 0 else if p then 2 + before_single ends pairs ys else 1 + before_single ends pairs (y ∷ ys)) <
          (if e then 0 else if p then 2 + before_end ends pairs ys else 1 + before_end ends pairs (y ∷ ys))
          → (one.along ≡ false → before_single ends pairs (y ∷ ys) < before_end ends pairs (y ∷ ys) → HasNote kind
          (noted one (y ∷ ys))) → ((stepped one y ys).along ≡ false → before_single ends pairs ys < before_end ends
          pairs ys → HasNote kind (noted (stepped one y ys) ys)) → HasNote kind (noted i (x ∷ y ∷ ys))
      by e s p k l m less rest behind = grind (arith, nat_tests, here-step, on, along, behind-step, one)

note-in : (kind : NoteKind) (ns : List NoteAt) (later : List Answer) → HasNote kind ns
    → IsNoted kind (note_answers ns ++ later)
note-in kind [] later h = absurd h
note-in kind (n ∷ ns) later (inl e) = inl e
note-in kind (n ∷ ns) later (inr h) = inr (note-in kind ns later h)

note-before : (kind : NoteKind) (ns ms : List NoteAt) → HasNote kind ns → HasNote kind (ns ++ ms)
note-before kind [] ms h = absurd h
note-before kind (n ∷ ns) ms (inl e) = inl e
note-before kind (n ∷ ns) ms (inr h) = inr (note-before kind ns ms h)

before-last : (kind : NoteKind) (ns : List NoteAt) (o : Option NoteAt) → HasNote kind ns → HasNote kind (and_last ns o)
before-last kind ns None h = h
before-last kind ns (Some n) h = note-before kind ns (n ∷ []) h

note-behind : (kind : NoteKind) (ns ms : List NoteAt) → HasNote kind ms → HasNote kind (ns ++ ms)
note-behind kind [] ms h = h
note-behind kind (n ∷ ns) ms h = inr (note-behind kind ns ms h)

-- ## Whole texts

-- a text that `@>` closes, as far as it goes
record IsCut (ends pairs : List ℕ → Bool) (i : Inside) (bytes : List ℕ) : Type 0 where
  closed : (extent i bytes).closed ≡ is_closed ends pairs bytes
  size : (extent i bytes).size ≡ closed_size ends pairs bytes

is-cut : (ends pairs : List ℕ → Bool) (i : Inside) (bytes : List ℕ) → closing_bytes i.body ≡ at_sign ∷ greater ∷ []
    → (ended i bytes).place - i.place ≡ before_end ends pairs bytes → IsCut ends pairs i bytes
is-cut ends pairs i bytes by size = record {
  closed = closed;
  size = (λ k. if begins_with (by k) (drop (size k) bytes) then size k + length (by k) else size k)
      ∙ ap (λ t. if t then before_end ends pairs bytes + 2 else before_end ends pairs bytes)
      (two-with at_sign greater (drop (before_end ends pairs bytes) bytes));
}
  where
    closed : (extent i bytes).closed ≡ is_closed ends pairs bytes
    closed = grind (arith, nat_tests, two-with)

control-cut : (place : ℕ) (bytes : List ℕ) → IsCut ends_control is_double_at (at_start bodies.ControlText place) bytes
control-cut place bytes = is-cut ends_control is_double_at (at_start bodies.ControlText place) bytes refl (before-size
    bodies.ControlText ends_control is_double_at control-rules (at_start bodies.ControlText place) bytes refl refl)

name-cut : (place : ℕ) (bytes : List ℕ) → IsCut ends_name (begins at_sign) (at_start bodies.SectionName place) bytes
name-cut place bytes = is-cut ends_name (begins at_sign) (at_start bodies.SectionName place) bytes refl (before-size
    bodies.SectionName ends_name (begins at_sign) name-rules (at_start bodies.SectionName place) bytes refl refl)

pub control-whole : (place byte next : ℕ) (bytes : List ℕ) (later : List Answer)
    → HasControlText (byte ∷ next ∷ bytes) (2 + (extent (at_start bodies.ControlText place) bytes).size)
    (note_answers (all_notes NoteKind.ControlTextUnended (at_start bodies.ControlText place) bytes) ++ later)
control-whole place byte next bytes later =
    let i = at_start bodies.ControlText place in
    record {
      whole = ap (λ n. 2 + n) (control-cut place bytes).size;
      noted = λ h. unended-noted NoteKind.ControlTextUnended _ (extent i bytes).closed (extent i bytes).stop later
          ((control-cut place bytes).closed ∙ h);
      singles = λ less. note-in NoteKind.CodeInControlText (all_notes NoteKind.ControlTextUnended i bytes) later
          (before-last NoteKind.CodeInControlText (noted i bytes) _ (single-noted bodies.ControlText ends_control
          is_double_at control-rules NoteKind.CodeInControlText (λ braces byte bytes. refl) i bytes refl refl less));
    }

pub name-whole : (code : Code) (place byte next : ℕ) (bytes : List ℕ) (later : List Answer)
    → HasName (byte ∷ next ∷ bytes) (section_name code place (byte ∷ next ∷ bytes)).size
    (note_answers (section_name code place (byte ∷ next ∷ bytes)).notes ++ later)
name-whole code place byte next bytes later =
    let i = at_start bodies.SectionName (place + 2) in
    let cut = name-cut (place + 2) bytes in
    let notes = (section_name code place (byte ∷ next ∷ bytes)).notes in
    let first = one_note (note_unless (extent i bytes).closed NoteKind.NameUnended place) in
    record {
      whole = ap (λ n. 2 + n) cut.size;
      noted = λ h. note-in NoteKind.NameUnended notes later
          (note-before NoteKind.NameUnended first _ (unended (extent i bytes).closed (cut.closed ∙ h)));
      singles = λ less. note-in NoteKind.CodeInName notes later (note-behind NoteKind.CodeInName first _
          (note-behind NoteKind.CodeInName (one_note _) (noted i bytes) (single-noted bodies.SectionName ends_name
          (begins at_sign) name-rules NoteKind.CodeInName (λ braces byte bytes. refl) i bytes refl refl less)));
    }
  where
    unended : (closed : Bool) → closed ≡ false
        → HasNote NoteKind.NameUnended (one_note (note_unless closed NoteKind.NameUnended place))
    unended closed e = grind (arith, nat_tests)
