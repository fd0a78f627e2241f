-- A C text is translated, its marks are noted, and then it is printed.
use Rattle.cw_press.proofs.Terms.{◌≡◌, ℕ, ◌+◌, ◌≤◌, ◌≢◌, refl, sym, ap, ◌∙◌, ne_eqb, List, [], ◌∷◌, ◌++◌, append_assoc}
use Rattle.cw_press.proofs.Terms.{length, map, take, inl, inr, None, Option, Err, IsErrAnd, Ok, Result, Some, slice_get}
use Rattle.cw_press.proofs.Terms.{take-map, append-nil, map-append, take_all, take_more, DeskState, LineState, Puts}
use Rattle.cw_press.proofs.Terms.{puts-bytes, puts-failing, puts-none, puts-then, puts-nothing, NameId, Occurrence}
use Rattle.cw_press.proofs.Terms.{Book, PutError, Memory as out_of_memory, Answer, Counts, Done, Setting}
use Rattle.cw_press.proofs.Terms.{NotesFirst, Weaves, mark, marked, underlined}
use Rattle.std.proofs.lemmas.Option.{get_or_from_slice_get, slice_get_within}
use Rattle.cw_answers.specs.Reading.{Stays}
use Rattle.cw_answers.proofs.Staying.{stays-trans}
use Rattle.cw_base.specs.declared.memory.Memory.{Memory}
use Rattle.cw_press.specs.model.Translation.{TranslatedState, Translates}
use Rattle.cw_press.proofs.WeavingLaws.{weaves-refused}

-- ## Marks

ids-marked : (section : ℕ) (ids : List NameId) → map (mark section) ids ≡ marked section (map (λ id. id.index) ids)
ids-marked section [] = refl
ids-marked section (id ∷ ids) = ap (λ (os : List Occurrence). mark section id ∷ os) (ids-marked section ids)

pub marked-next : (section : ℕ) (ids : List NameId) (i : ℕ) (id : NameId) (first before new : List Occurrence)
    → slice_get ids i ≡ Some id → before ≡ first ++ map (mark section) (take i ids)
    → new ≡ before ++ mark section id ∷ [] → new ≡ first ++ map (mark section) (take (i + 1) ids)
marked-next section ids i id first before new there so_far grown =
    let more : take (i + 1) ids ≡ take i ids ++ id ∷ [] = take_more ids i id (slice_get_within ids i id there)
    ∙ ap (λ (x : NameId). take i ids ++ x ∷ []) (get_or_from_slice_get ids i id id there) in
    grown ∙ ap (λ (os : List Occurrence). os ++ mark section id ∷ []) so_far ∙ append_assoc first
    (map (mark section) (take i ids)) (mark section id ∷ []) ∙ ap (λ (os : List Occurrence). first ++ os)
    (sym (map-append (mark section) (take i ids) (id ∷ [])) ∙ ap (map (mark section)) (sym more))

pub marked-all : (section : ℕ) (ids : List NameId) (i : ℕ) (first new : List Occurrence) → section ≢ 0 → length ids ≤ i
    → new ≡ first ++ map (mark section) (take i ids) → new ≡ first ++ underlined section (map (λ id. id.index) ids)
marked-all section ids i first new some whole is = is ∙ ap (λ (os : List Occurrence). first ++ os) (ap
    (map (mark section)) (take_all i ids whole) ∙ ids-marked section ids ∙ rw (ne_eqb section 0 some, underlined) refl)

pub marked-none : (section : ℕ) (marks : List ℕ) (first : List Occurrence) → section ≡ 0 → first
    ≡ first ++ underlined section marks
marked-none section marks first none = sym (append-nil first) ∙ ap (λ (n : ℕ). first ++ underlined n marks) (sym none)

-- where a mark finds no room, those before it are noted
pub marked-first : (section : ℕ) (ids : List NameId) (i : ℕ) (first new : List Occurrence) → section ≢ 0 → new ≡ first
    ++ map (mark section) (take i ids) → NotesFirst (underlined section (map (λ id. id.index) ids)) first new
marked-first section ids i first new some is = record {
  count = i;
  are = is ∙ ap (λ (os : List Occurrence). first ++ os) (sym (take-map (mark section) i ids)
      ∙ ap (take i) (ids-marked section ids ∙ sym (rw (ne_eqb section 0 some, underlined) refl)));
}

pub none-noted : (noted first : List Occurrence) → NotesFirst noted first first
none-noted noted first = record { count = 0; are = sym (append-nil first) }

-- ## A text that is translated and then printed

pub translated-woven : {T : Type 0} {s : Setting} {d : Done ℕ} {old now : Book} {before after : ℕ}
    {text : TranslatedState} {counts : Counts} {line line' : LineState} {told told' : DeskState} {value : T} → counts
    ≡ text.counts → Translates s d old now before after (Ok text) → Puts {T = T} d.out line line' told told' (Ok value)
    → Weaves s d (record { book = old; line = line; told = told; steps = before })
    (record { book = now; line = line'; told = told'; steps = after }) (Ok counts)
translated-woven {counts = counts} {line' = line'} {told' = told'} same t put = record {
  puts = puts-bytes (append-nil _) (puts-then put (puts-none line' told' counts));
  names = t.names;
  occurrences = t.occurrences;
  same = t.same;
  scraps = ap (λ (n : Counts). n.scraps) same ∙ t.scraps;
  productions = ap (λ (n : Counts). n.productions) same ∙ t.productions;
  steps_are = t.steps_are;
  bound = t.bound;
}

-- the translation is refused, and nothing is printed
pub untranslated-woven : {s : Setting} {d : Done ℕ} {old now : Book} {before after : ℕ} {line : LineState}
    {told : DeskState} {refused : Result TranslatedState Memory} {result : Result Counts PutError}
    → Translates s d old now before after refused → IsErrAnd result (λ found. found ≡ out_of_memory)
    → Weaves s d (record { book = old; line = line; told = told; steps = before })
    (record { book = now; line = line; told = told; steps = after }) result
untranslated-woven {d = d} {line = line} {told = told} t is =
    weaves-refused _ (puts-nothing d.out line told is) t.same t.bound is

-- the printing is refused
pub unprinted-woven : {T : Type 0} {s : Setting} {d : Done ℕ} {old now : Book} {before after : ℕ}
    {translated : Result TranslatedState Memory} {line line' : LineState} {told told' : DeskState} {error : PutError}
    {result : Result Counts PutError} → Translates s d old now before after translated
    → Puts {T = T} d.out line line' told told' (Err error) → IsErrAnd result (λ found. found ≡ error)
    → Weaves s d (record { book = old; line = line; told = told; steps = before })
    (record { book = now; line = line'; told = told'; steps = after }) result
unprinted-woven t put is = weaves-refused _ (puts-failing refl put is) t.same t.bound is

-- what is kept of a scan that was read to its end are the answers of the scan
pub kept-tokens : (tokens answers : List Answer) (read left : Option (List Answer)) → Stays (Some tokens) read
    → Stays read left → left ≡ Some answers → answers ≡ tokens
kept-tokens tokens answers read left h k is = by (stays-trans (Some tokens) read left h k)
  where
    taken : Option (List Answer) → List Answer
    taken (Some list) = list
    taken None = []

    by : Stays (Some tokens) left → answers ≡ tokens
    by (inl e) = ap taken (sym is ∙ e)
    by (inr e) = absurd (let n : Some answers ≡ None = sym is ∙ e in cc)
