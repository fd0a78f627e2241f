-- A text or a comment ends, and its list becomes a part of what is open around it; or it is the whole text.
use Rattle.cw_translator.proofs.Terms.{◌≡◌, ℕ, ◌+◌, ◌*◌, ◌≤◌, true, List, [], ◌∷◌, ◌++◌, length, map, None, refl, sym}
use Rattle.cw_translator.proofs.Terms.{ap, subst, Option, Result, Ok, IsErrAnd, OnOk, arith, All, append-nil}
use Rattle.cw_translator.proofs.Terms.{on_ok_weaker, length-map, All-head, All-tail, All-cons, Flags, Memory, Answer}
use Rattle.cw_translator.proofs.Terms.{Finish, Seen, Entry, is_fine, productions, State, reservings}
use Rattle.cw_translator.proofs.Terms.{Token as StoredToken, unfolded, StoredLists, IsTied, scrap_agrees, WatchState}
use Rattle.cw_translator.proofs.Terms.{LineEntry, state_of, Keeps, entry_of, seen, scraps_of, roots_of, AreRoots}
use Rattle.cw_translator.proofs.Terms.{IsOutside, IsNamedBelow, IsSoundLine, CommentPart, Open, Translated, Translator}
use Rattle.cw_translator.proofs.Terms.{Holder, held_leaf, held_scrap, held_tree, Gathers, part_seen, inner_lists}
use Rattle.cw_translator.proofs.Terms.{LineDone, limit_in, with_entry, with_part, last_line, frame_of, frames_of}
use Rattle.cw_translator.proofs.Terms.{open_roots, all_roots, AreSoundScraps, IsSoundFrame, IsTranslating, words_of}
use Rattle.cw_translator.proofs.Terms.{HasRecorded, Retypes, NamesOnTheWay, NamesAmong, here, at_finish, at_end}
use Rattle.cw_translator.proofs.Terms.{Progress, with_scrap, with_item, after_answers, last_scraps, state_in, end_from}
use Rattle.cw_translator.proofs.Terms.{CommentItem, InnerText, Work, IsSameWork, Advances, EndsIn, progress_of, Target}
use Rattle.cw_translator.proofs.Terms.{over, progress_over, to_end, gathers-roots, gathers-keeps, Scrap}
use Rattle.cw_base.proofs.TestLaws.{both}
use Rattle.cw_tokens.specs.declared.token.ListId.{ListId}
use Rattle.cw_translator.specs.declared.comments.CommentPart.TheVariants as part
use Rattle.cw_translator.specs.declared.nesting.Open.TheVariants.{CText, Comment}
use Rattle.cw_translator.proofs.CommentLaws.{held-named, held-agrees, held-fine}
use Rattle.cw_translator.proofs.LeafSteps.{Steps, Same, Placed, empty-line, placed, stay-steps}
use Rattle.cw_translator.proofs.OpenLaws.{entry-put, put-part, more-frames, right-roots, scrap-sound, item-sound}
use Rattle.cw_translator.proofs.Recorded.{recorded-error, recorded-whole}
use Rattle.cw_translator.proofs.Routes.{Quiet, advances-refused, ends-refused, on-err}
use Rattle.cw_translator.proofs.Sums.{limit-one, productions-one, scraps-one, ticks-one}

pub gathers-root : (old new : List (List StoredToken)) (roots : List ℕ) (list : ℕ) → Gathers old new roots list
    → IsTied old → AreRoots old roots → AreRoots new (list ∷ [])
gathers-root old new roots list g tied are = gathers-roots old new roots list g [] [] tied
    (subst (AreRoots old) (sym (append-nil roots)) are)

pub same-names : (flags : Flags) (answers : List Answer) (p : Progress) → NamesAmong flags answers p p.known.names
same-names flags answers p = λ rest. here (answers ++ rest) p

pub reopened : (store : StoredLists) (names : List Entry) {t : Translator} {all : List Open} → t.nesting ≡ all
    → IsTranslating store names t → IsTranslating store names (record t { nesting = all })
reopened store names {t = t} e is = subst (λ ls. IsTranslating store names (record t { nesting = ls })) e is

abbrev with_inner : Open → List Open → Translator → Translator
with_inner inner outer t = record t { nesting = inner ∷ outer }

abbrev finished : {L R : Type 0} → Flags → Seen → Work L R → Translator → Progress
finished flags token work u = after_answers flags (Finish token ∷ []) (progress_over work u)

-- what is open is said by its parts
finished-as : {L R : Type 0} (flags : Flags) (token : Seen) (work : Work L R) (t : Translator) {all : List Open}
    → t.nesting ≡ all → finished flags token work t ≡ finished flags token work (record t { nesting = all })
finished-as flags token work t e = ap (λ all. finished flags token work (record t { nesting = all })) e

-- the innermost
module _ {store : StoredLists} {names : List Entry} (t : Translator) (inner : Open) (outer : List Open)
    (is : IsTranslating store names (with_inner inner outer t)) where
  inner-roots : AreRoots store.lists (open_roots inner)
  inner-roots = right-roots store.lists (all_roots outer) (open_roots inner) is.roots

  inner-sound : IsSoundFrame (length names) (frame_of store.lists inner)
  inner-sound = All-head (IsSoundFrame (length names)) (frame_of store.lists inner) (frames_of store.lists outer)
      is.sound

  outer-sound : All (IsSoundFrame (length names)) (frames_of store.lists outer)
  outer-sound = All-tail (IsSoundFrame (length names)) (frame_of store.lists inner) (frames_of store.lists outer)
      is.sound

pub open-line : (store : StoredLists) (names : List Entry) (t : Translator) (line : List LineEntry) (outer : List Open)
    → IsTranslating store names t → t.nesting ≡ CText line ∷ outer → IsSoundLine store names line
open-line store names t line outer is e =
    let now = reopened store names e is in
    let sound : AreSoundScraps (length names) (scraps_of store.lists line) = inner-sound t (CText line) outer now in
    record {
      idle = is.idle;
      roots = inner-roots t (CText line) outer now;
      named = sound.named;
      modes = sound.modes;
      fine = sound.fine;
    }

pub open-lists : (store : StoredLists) (names : List Entry) (t : Translator) (held_by : Holder)
    (parts : List CommentPart) (outer : List Open) → IsTranslating store names t
    → t.nesting ≡ Comment held_by parts ∷ outer → AreRoots store.lists (inner_lists parts)
open-lists store names t held_by parts outer is e =
    inner-roots t (Comment held_by parts) outer (reopened store names e is)

-- ## A line is reduced

abbrev pub state_over : {L R : Type 0} → Work L R → List LineEntry → State
state_over work line = state_of work.store.now.lists line work.marks.now work.names.now

-- what that leaves, whatever it answers
pub record Reduced {L R : Type 0} (told : R → Option WatchState) (flags : Flags) (line : List LineEntry)
    (old new : Work L R)
    (result : Result Translated Memory) : Type 0 where
  pub retypes : Retypes flags (state_over old line) old.names.now new.names.now
  pub bound : new.steps.now ≤ old.steps.now + (132 * length line + length line * reservings productions flags
      (state_over old line))
  pub same : IsSameWork old new
  pub idle : new.store.now.building ≡ None
  pub recorded : HasRecorded flags (state_over old line ∷ []) (told old.recorder) (told new.recorder) result

abbrev DoneIn : {L R : Type 0} → Flags → Work L R → Work L R → List LineEntry → Translated → Type 0
DoneIn flags old new line done = LineDone flags old.store.now new.store.now old.names.now new.names.now old.marks.now
    new.marks.now line done old.steps.now new.steps.now

line-bound : {L R : Type 0} {told : R → Option WatchState} {flags : Flags} {line : List LineEntry} {old new : Work L R}
    {result : Result Translated Memory} → Reduced told flags line old new result
    → new.steps.now ≤ old.steps.now + limit_in flags (state_over old line ∷ [])
line-bound {flags = flags} {line = line} {old = old} r =
    grind (arith, reservings, productions, length-map, seen, limit-one)

words-length : (new old : List Entry) → words_of new ≡ words_of old → length old ≤ length new
words-length new old e = grind (arith, words_of, length-map)

-- ## A C text ends with it

module _ {L R : Type 0} {flags : Flags} {line : List LineEntry} {outer : List Open} (t : Translator)
    (old new : Work L R) (open_is : t.nesting ≡ CText line ∷ outer) (token : Seen) where
  text-names : Retypes flags (state_over old line) old.names.now new.names.now
      → NamesAmong flags (Finish token ∷ []) (progress_over old t) new.names.now
  text-names r = λ rest. at_finish token rest (progress_over old t) (scraps_of old.store.now.lists line)
      (frames_of old.store.now.lists outer) new.names.now (ap (frames_of old.store.now.lists) open_is) r

  pub text-refused : {T : Type 0} {told : R → Option WatchState} {t' : Translator} {first : Result Translated Memory}
      {result : Result T Memory} {error : Memory} → Reduced told flags line old new first → IsErrAnd result (λ found.
      found ≡ error) → Advances told (over flags (Finish token ∷ []) (progress_over old t)) t old t' new result
  text-refused r is = rw (finished-as flags token old t open_is) (advances-refused is (text-names r.retypes)
      (recorded-error flags (state_over old line ∷ []) is r.recorded) (line-bound r) r.same r.idle)

  text-is : (t' : Translator) (done : Translated) → DoneIn flags old new line done
      → frames_of new.store.now.lists t'.nesting ≡ with_item (InnerText (unfolded new.store.now.lists done.list.index))
      (frames_of old.store.now.lists outer) → progress_of new.store.now.lists new.names.now new.marks.now t'
      (state_over old line ∷ []) ≡ finished flags token old (with_inner (CText line) outer t)
  text-is t' done d e = cc (e, d.tree, d.names_are, d.marks_are)

  pub text-advances : {T : Type 0} {told : R → Option WatchState} {t' : Translator} {result : Result T Memory}
      (done : Translated) → Reduced told flags line old new (Ok done) → DoneIn flags old new line done
      → IsTranslating old.store.now old.names.now t → IsTied old.store.now.lists → t'.scraps ≡ t.scraps + done.scraps
      → t'.productions ≡ t.productions + done.productions → OnOk result (t'.nesting ≡ with_part (part.InnerText
      done.list) outer) → Advances told (over flags (Finish token ∷ []) (progress_over old t)) t old t' new result
  text-advances {t' = t'} {result = result} done r d is tied scraps applied made =
      let item : CommentItem = InnerText (unfolded new.store.now.lists done.list.index) in
      let now : OnOk result (Placed old.store.now new.store.now old.names.now new.names.now t t'
      (with_item item (frames_of old.store.now.lists outer))) = on_ok_weaker result (λ e. placed outer (roots_of line)
      done.list.index is tied (ap all_roots open_is) (record { root = d.root; keeps = d.keeps; idle = d.idle })
      (with_item item) (rw e (put-part new.store.now.lists (part.InnerText done.list) outer))) made in
      let steps : OnOk result (Steps old.store.now new.store.now old.names.now new.names.now t t') =
      on_ok_weaker result (λ n. n.1 (item-sound (length new.names.now) item (frames_of old.store.now.lists outer)
      d.named (more-frames _ _ (frames_of old.store.now.lists outer) (words-length new.names.now old.names.now d.words)
      (outer-sound t (CText line) outer (reopened old.store.now old.names.now open_is is))))
      (omega (arith, is.light, d.few, scraps, applied))) now in
      rw (finished-as flags token old t open_is) (record {
        translating = on_ok_weaker result (λ s. s.translating) steps;
        come = on_ok_weaker result (λ n. record {
          is = text-is t' done d n.0;
          scraps = omega (arith, length-map line (seen old.store.now.lists), scraps-one (state_over old line));
          productions_are = omega (arith, applied, d.productions_are, productions-one flags (state_over old line));
          steps_are = omega (arith, d.steps_are, ticks-one flags (state_over old line));
        }) now;
        keeps = on_ok_weaker result (λ s. s.keeps) steps;
        names = on-err result _ (text-names r.retypes);
        recorded = recorded-whole result r.recorded;
        bound = line-bound r;
        same = r.same;
        idle = r.idle;
      })

-- ## A comment ends, and nothing is open

pub none-quiet : {L R : Type 0} (flags : Flags) (token : Seen) (t t' : Translator) (work : Work L R) → Same t t'
    → IsTranslating work.store.now work.names.now t → t.nesting ≡ [] → t'.nesting ≡ []
    → Quiet t work t' work (finished flags token work t)
none-quiet flags token t t' work counts is none none' = grind (arith, stay-steps, all_roots, finished-as)

module _ {L R : Type 0} (flags : Flags) (token : Seen) (t t' : Translator) (old new : Work L R) (counts : Same t t')
    {held_by : Holder} {parts : List CommentPart} {outer : List Open} (list : ListId)
    (tree : unfolded new.store.now.lists list.index ≡ held_tree held_by (map (part_seen old.store.now.lists) parts))
    (gathers : Gathers old.store.now.lists new.store.now.lists (inner_lists parts) list.index)
    (idle : new.store.now.building ≡ None) (names_are : new.names.now ≡ old.names.now)
    (marks_are : new.marks.now ≡ old.marks.now) (is : IsTranslating old.store.now old.names.now t)
    (tied : IsTied old.store.now.lists) (open_is : t.nesting ≡ Comment held_by parts ∷ outer)
    (made : t'.nesting ≡ with_entry (entry_of (held_leaf held_by list)) outer) where
  abbrev scrap : Scrap
  scrap = held_scrap held_by (map (part_seen old.store.now.lists) parts)

  now : IsTranslating old.store.now old.names.now (with_inner (Comment held_by parts) outer t)
  now = reopened old.store.now old.names.now open_is is

  sound-held : AreSoundScraps (length old.names.now) (scrap ∷ [])
  sound-held = record {
    named = All-cons (λ s. IsNamedBelow (length old.names.now) s.tree) scrap [] (held-named (length old.names.now)
        held_by _ (inner-sound t (Comment held_by parts) outer now)) (λ k d h. absurd (omega arith));
    modes = All-cons scrap_agrees scrap [] (held-agrees held_by _) (λ k d h. absurd (omega arith));
    fine = both (is_fine scrap) true (held-fine held_by (map (part_seen old.store.now.lists) parts)) refl;
  }

  held : Placed old.store.now new.store.now old.names.now old.names.now t t'
      (with_scrap scrap (frames_of old.store.now.lists outer))
  held =
      let roots = inner-roots t (Comment held_by parts) outer now in
      placed outer (inner_lists parts) list.index is tied (ap all_roots open_is) (record {
        root = gathers-root _ _ _ _ gathers tied roots;
        keeps = gathers-keeps _ _ _ _ gathers tied roots;
        idle = idle;
      }) (with_scrap scrap) (entry-put new.store.now.lists (entry_of (held_leaf held_by list)) outer t'.nesting scrap
      (cc tree) made)

  pub comment-quiet : Quiet t old t' new (finished flags token old t)
  comment-quiet = record {
    steps = rw names_are (held.1 (scrap-sound (length old.names.now) scrap (frames_of old.store.now.lists outer)
        sound-held (outer-sound t (Comment held_by parts) outer now))
        (rw (counts.scraps, counts.productions) is.light));
    counts = counts;
    is = cc (held.0, names_are, marks_are, finished-as flags token old t open_is);
    none = ap (λ (p : Progress). p.known.ended) (finished-as flags token old t open_is);
  }

-- ## The whole text ends

-- the text that is open alone
pub last-sound : (store : StoredLists) (names : List Entry) (t : Translator) (all : List Open)
    → IsTranslating store names t → t.nesting ≡ all → IsSoundLine store names (last_line all)
last-sound store names t (CText line ∷ []) is e = open-line store names t line [] is e
last-sound store names t _ is e = empty-line store names is.idle

last-outside : (lists : List (List StoredToken)) (all : List Open) (k : ℕ) → IsOutside lists (all_roots all) k
    → IsOutside lists (roots_of (last_line all)) k
last-outside lists all k o = grind arith

last-keeps : (old new : List (List StoredToken)) (ss : List ℕ) (all : List Open)
    → Keeps old new (roots_of (last_line all)) ss → Keeps old new (all_roots all) ss
last-keeps old new ss all keeps = record {
  lists = λ k o. keeps.lists k (last-outside old all k o);
  trees = λ k o. keeps.trees k (last-outside old all k o);
  outside = λ k o. keeps.outside k (last-outside old all k o);
  free = λ k o. keeps.free k (last-outside old all k o);
}

-- its scraps are all that are left
last-scraps-are : (lists : List (List StoredToken)) (all : List Open)
    → scraps_of lists (last_line all) ≡ last_scraps (frames_of lists all)
last-scraps-are lists all = grind arith

abbrev ends_from : {L R : Type 0} → Flags → Translator → Work L R → State → Target
ends_from flags t old begun = record {
  flags = flags;
  text = end_from flags begun (progress_over old t).known;
  leaves = λ names. NamesOnTheWay flags [] (progress_over old t) names;
}

left-is : {L R : Type 0} (old : Work L R) (t : Translator) (line : List LineEntry) → line ≡ last_line t.nesting
    → state_over old line ≡ state_in (last_scraps (frames_of old.store.now.lists t.nesting)) (progress_over old t).known
left-is old t line line_is = grind (arith, state_in, progress_over, scraps_of, last-scraps-are)

pub line-refused : {L R : Type 0} {told : R → Option WatchState} {flags : Flags} {t : Translator} {line : List
    LineEntry}
    {old new : Work L R} {first result : Result Translated Memory} {error : Memory} → line ≡ last_line t.nesting
    → Reduced told flags line old new first → IsErrAnd result (λ found. found ≡ error)
    → EndsIn told (to_end flags [] (progress_over old t)) t old new result
line-refused {told = told} {flags} {t} {line} {old} {new} {result = result} line_is r is = subst (λ s. EndsIn told
    (ends_from flags t old s) t old new result) (left-is old t line line_is) (ends-refused is (at_end (progress_over old
    t) new.names.now (subst (λ s. Retypes flags s old.names.now new.names.now) (left-is old t line line_is) r.retypes))
    (recorded-error flags (state_over old line ∷ []) is r.recorded) (line-bound r) r.same r.idle)

pub line-ends : {L R : Type 0} {told : R → Option WatchState} {flags : Flags} {t : Translator} {line : List LineEntry}
    {old new : Work L R} → line ≡ last_line t.nesting → (done : Translated) (scraps applied : ℕ) → Reduced told flags
    line old new (Ok done) → DoneIn flags old new line done → IsTranslating old.store.now old.names.now t
    → scraps ≡ t.scraps + done.scraps → applied ≡ t.productions + done.productions → EndsIn told (to_end flags []
    (progress_over old t)) t old new (Ok (record { list = done.list; scraps = scraps; productions = applied }))
line-ends {told = told} {flags} {t} {line} {old} {new} line_is done scraps applied r d is scraps_are applied_are =
    grind (arith, length-map, last-keeps)
