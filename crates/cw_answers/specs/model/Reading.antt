-- The models beside `specs/Reading`.
use Rattle.std.specs.Prelude.{◌≡◌, ℕ, ◌^◌, ◌<◌, Bool, true, List, [], ◌∷◌, ◌++◌, length, Option, Some, None}
use Rattle.std.specs.Prelude.{if◌then◌else◌}
use Rattle.std.specs.List.{All}
use Rattle.cw_base.specs.declared.notes.NoteKind.{NoteKind}
use Rattle.cw_rules.specs.Answers.{Answer, Token, Begin, Finish, Note}
use Rattle.cw_answers.specs.declared.kept_answer.KeptAnswer.{KeptAnswer}
use Rattle.cw_answers.specs.declared.reader.Room.{Room}
use Rattle.cw_answers.specs.model.Kept.{IsWithin, StandsIn, answers_at}

-- where each answer is kept, all are known
abbrev pub all_of : Bool → List Answer → Option (List Answer)
all_of complete answers = if complete then Some answers else None

-- the token of an answer stands in the text
abbrev pub Stand : List ℕ → Answer → Type 0
Stand text (Token t) = StandsIn text t
Stand text (Begin t) = StandsIn text t
Stand text (Finish t) = StandsIn text t
Stand text (Note kind place) = Unit {0}

-- An answer is kept behind those before it, or not each answer is kept from now on.
abbrev pub Goes : Room → KeptAnswer → Room → Type 0
Goes old one new = new.whole ≡ true → (old.whole ≡ true) × (new.items.items ≡ old.items.items ++ one ∷ [])

abbrev pub GoesByNote : Room → NoteKind → ℕ → Room → Type 0
GoesByNote old kind place new = new.whole ≡ true →
    (old.whole ≡ true) × ((text : List ℕ) → answers_at text new.items.items ≡ answers_at text old.items.items
    ++ Note kind place ∷ []) × ((n : ℕ) → All (IsWithin n) old.items.items → All (IsWithin n) new.items.items)

-- what holds of a scan whose answers may be kept
pub record IsReading (text : List ℕ) (room : Room) (coming : List Answer) : Type 0 where
  pub within : room.whole ≡ true → All (IsWithin (length text)) room.items.items
  pub short : length text < 2 ^ 32
  pub stand : All (Stand text) coming
