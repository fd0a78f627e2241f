-- What each answer of the scanner does, as one relation: a token, a beginning and a note.
use Rattle.cw_translator.proofs.Terms.{◌≡◌, ℕ, List, [], ◌∷◌, length, ◌⊎◌, inl, inr, refl, sym, ap, subst, Option, None}
use Rattle.cw_translator.proofs.Terms.{arith, append-nil, Result, Ok, OnOk, All, on_ok_weaker, Flags, Memory, Begin}
use Rattle.cw_translator.proofs.Terms.{Note, Seen, TokKind, State, Token as StoredToken, Entry, WatchState, Keeps}
use Rattle.cw_translator.proofs.Terms.{names_with, MarkList, Open, Translator, Work, IsSoundFrame, IsTranslating}
use Rattle.cw_translator.proofs.Terms.{all_roots, answers_in, begun_by, frames_of, progress_of, Progress, Frame}
use Rattle.cw_translator.proofs.Terms.{Comment as CommentFrame, frames_begun, after_answers, after_token, with_names}
use Rattle.cw_translator.proofs.Terms.{Known, NamesAmong, here, later, IsSameWork, Advances, over, progress_over}
use Rattle.cw_base.specs.declared.notes.NoteKind.{NoteKind}
use Rattle.cw_rules.specs.Answers.{Token}
use Rattle.cw_rules.specs.declared.codes.Code.{Code}
use Rattle.cw_rules.specs.declared.tokens.TokKind.TheVariants as kind
use Rattle.cw_rules.specs.declared.tokens.Lexed.{Lexed}
use Rattle.cw_rules.specs.declared.tokens.Lexed.TheVariants as lexed
use Rattle.cw_translator.specs.declared.holders.Holder.{Holder}
use Rattle.cw_translator.specs.declared.nesting.Open.TheVariants.{Comment}
use Rattle.cw_translator.proofs.Routes.{Quiet, on-err, advances-as, advances-none, advances-quiet}
use Rattle.cw_translator.proofs.FinishSteps.{same-names}
use Rattle.cw_translator.proofs.LeafSteps.{Same, stay-steps}
pub use Rattle.cw_translator.proofs.Routes.{unchanged}

-- ## A token

-- it changes the names alone
known-after : (k : TokKind) (token : Seen) (p : Progress)
    → (after_token k token p).known ≡ with_names (names_with k token.text p.known.names) p.known
known-after k token p = grind arith

token-names : (flags : Flags) (token : Seen) (p : Progress) (new : List Entry) → (new ≡ p.known.names)
    ⊎ (new ≡ names_with token.kind token.text p.known.names) → NamesAmong flags (Token token ∷ []) p new
token-names flags token p new h = grind (arith, here, later, after_token, known-after)

all-ok : {T E : Type 0} (r : Result T E) (A B C : Type 0) → OnOk r A → OnOk r B → OnOk r C → OnOk r (A × B × C)
all-ok r A B C a b c = grind arith

pub token-advances : {L R T : Type 0} {told : R → Option WatchState} (flags : Flags) (token : Seen) {t t' : Translator}
    {old new : Work L R} {result : Result T Memory} → OnOk result (IsTranslating new.store.now new.names.now t')
    → OnOk result ((marks : MarkList) (ended : List State) → progress_of new.store.now.lists new.names.now marks t'
    ended ≡ after_token token.kind token (progress_of old.store.now.lists old.names.now marks t ended)) → Same t t'
    → OnOk result (Keeps old.store.now.lists new.store.now.lists (all_roots t.nesting) (all_roots t'.nesting))
    → (new.names.now ≡ old.names.now) ⊎ (new.names.now ≡ names_with token.kind token.text old.names.now)
    → new.marks.now ≡ old.marks.now → new.steps.now ≡ old.steps.now → new.recorder ≡ old.recorder → IsSameWork old new
    → new.store.now.building ≡ None → Advances told (over flags (Token token ∷ []) (progress_over old t)) t old t' new
    result
token-advances flags token {t = t} {old = old} {new = new} {result = result} translating progress counts keeps names
    marks steps recorder same idle = advances-quiet (on_ok_weaker result (λ q. record {
      steps = record { translating = q.0; keeps = q.2 };
      counts = counts;
      is = rw marks (q.1 old.marks.now []);
      none = ap (λ (known : Known). known.ended) (known-after token.kind token (progress_over old t));
    }) (all-ok result _ _ _ translating progress keeps))
    (on-err result _ (token-names flags token (progress_over old t) new.names.now names)) steps recorder same idle

-- ## A beginning

pub begun-other : (k : TokKind) (number : ℕ) (all : List Open) → (k ≡ kind.InnerText → ⊥) → (k ≡ kind.LongComment → ⊥)
    → (k ≡ kind.ShortComment → ⊥) → ((c : Code) → k ≡ kind.Code c → ⊥) → all ≡ begun_by k number all
begun-other k number all a b d f = grind arith

-- what begins has no list yet, and is sound
record Begun (count : ℕ) (lists : List (List StoredToken)) (all after : List Open) (frames : List Frame) : Type 0 where
  pub roots : all_roots after ≡ all_roots all
  pub sound : All (IsSoundFrame count) (frames_of lists all) → All (IsSoundFrame count) (frames_of lists after)
  pub is : frames_of lists after ≡ frames

module _ (count : ℕ) (lists : List (List StoredToken)) where
  held-begun : (held_by : Holder) (all : List Open) → Begun count lists all (Comment held_by [] ∷ all)
      (CommentFrame held_by [] ∷ frames_of lists all)
  held-begun held_by all = grind (arith, append-nil, all_roots, frames_of)

  begun : (k : TokKind) (number : ℕ) (all : List Open) → Begun count lists all (begun_by k number all)
      (frames_begun k number (frames_of lists all))
  begun k number all = grind (arith, append-nil, all_roots, frames_of, held-begun)

pub begin-advances : {L R T : Type 0} {told : R → Option WatchState} (flags : Flags) (token : Seen) {t t' : Translator}
    {work : Work L R} {result : Result T Memory} → IsTranslating work.store.now work.names.now t
    → OnOk result (t' ≡ record t { nesting = begun_by token.kind token.span.start t.nesting })
    → Advances told (over flags (Begin token ∷ []) (progress_over work t)) t work t' work result
begin-advances flags token {t = t} {work = work} {result = result} is begins =
    let b = begun (length work.names.now) work.store.now.lists token.kind token.span.start t.nesting in
    let p = after_answers flags (Begin token ∷ []) (progress_over work t) in
    let now : Translator = record t { nesting = begun_by token.kind token.span.start t.nesting } in
    let same : Same t now = record { scraps = refl; productions = refl } in
    advances-quiet (on_ok_weaker result (λ e. subst (λ x. Quiet t work x work p) (sym e) (record {
      steps = stay-steps work.store.now work.names.now t now is b.roots (b.sound is.sound) same;
      counts = same;
      is = cc b.is;
      none = refl;
    })) begins) (on-err result _ (same-names flags (Begin token ∷ []) (progress_over work t))) refl refl unchanged
    is.idle

-- ## A note, and the end of all answers

pub passed-advances : {L R T : Type 0} {told : R → Option WatchState} (flags : Flags) (answer : Lexed) {t : Translator}
    {work : Work L R} {value : T} → ((note : NoteKind) × (place : ℕ) × (answer ≡ lexed.Note note place)) ⊎
    (answer ≡ lexed.End) → IsTranslating work.store.now work.names.now t
    → Advances told (over flags (answers_in answer) (progress_over work t)) t work t work (Ok value)
passed-advances flags answer {t = t} {work = work} (inl h) is = rw h.2 (advances-as refl (λ new among
    coming. later (Note h.0 h.1) coming (progress_over work t) new (among coming)) (advances-none flags is))
passed-advances flags answer (inr e) is = rw e (advances-none flags is)
