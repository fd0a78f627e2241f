-- A reader keeps each answer behind those before it, and all of them stand in the text.
use Rattle.cw_answers.proofs.Terms.{◌≡◌, ℕ, inl, inr, Bool, true, false, List, [], ◌∷◌, ◌++◌, All, length, refl, sym}
use Rattle.cw_answers.proofs.Terms.{ap, subst, ◌∙◌, Some, append_assoc, All-push, All-tail, Answer, Note, KeptAnswer}
use Rattle.cw_answers.proofs.Terms.{IsWithin, answers_at, Goes, GoesByNote, IsReading, Stand, Stays, all_of}
use Rattle.cw_base.specs.declared.notes.NoteKind.{NoteKind}
use Rattle.cw_answers.specs.declared.reader.Room.{Room}

-- so many answers are kept behind those before them, or not each from now on
stays : (text : List ℕ) (old new : Room) (xs l m : List Answer) → l ≡ xs ++ m → (new.whole ≡ true → (old.whole ≡ true)
    × (answers_at text new.items.items ≡ answers_at text old.items.items ++ xs)) → Stays (all_of old.whole
    (answers_at text old.items.items ++ l)) (all_of new.whole (answers_at text new.items.items ++ m))
stays text old new xs l m e h = by new.whole refl
  where
    before : List Answer
    before = answers_at text old.items.items ++ l

    after : List Answer
    after = answers_at text new.items.items ++ m

    by : (b : Bool) → new.whole ≡ b → Stays (all_of old.whole before) (all_of new.whole after)
    by false is = inr (ap (λ b. all_of b after) is)
    by true is =
        let goes = h is in
        inl (ap (λ b. all_of b after) is
        ∙ ap Some (ap (λ a. a ++ m) goes.1
        ∙ append_assoc (answers_at text old.items.items) xs m
        ∙ ap (λ a. answers_at text old.items.items ++ a) (sym e))
        ∙ sym (ap (λ b. all_of b before) goes.0))

pub token-reading : (text : List ℕ) (old new : Room) (one : KeptAnswer) (x : Answer) (l m : List Answer) → l ≡ x ∷ m
    → IsWithin (length text) one → Goes old one new → IsReading text old l → IsReading text new m
token-reading text old new one x l m e w g h = record {
  within = λ whole. subst (All (IsWithin (length text))) (sym (g whole).1)
      (All-push (IsWithin (length text)) old.items.items one (h.within (g whole).0) w);
  short = h.short;
  stand = All-tail (Stand text) x m (subst (All (Stand text)) e h.stand);
}

-- a note is kept
pub note-stays : (text : List ℕ) (old new : Room) (kind : NoteKind) (place : ℕ) (l m : List Answer)
    → l ≡ Note kind place ∷ m → GoesByNote old kind place new → Stays (all_of old.whole
    (answers_at text old.items.items ++ l)) (all_of new.whole (answers_at text new.items.items ++ m))
note-stays text old new kind place l m e g =
    stays text old new (Note kind place ∷ []) l m e (λ whole. let k = g whole in (k.0, k.1 text))

pub note-reading : (text : List ℕ) (old new : Room) (kind : NoteKind) (place : ℕ) (l m : List Answer)
    → l ≡ Note kind place ∷ m → GoesByNote old kind place new → IsReading text old l → IsReading text new m
note-reading text old new kind place l m e g h = record {
  within = λ whole. let k = g whole in k.2 (length text) (h.within k.0);
  short = h.short;
  stand = All-tail (Stand text) (Note kind place) m (subst (All (Stand text)) e h.stand);
}
