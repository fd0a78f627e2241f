-- How one answer follows from what begins at the scanner's place.
use Rattle.std.proofs.Common.{◌≡◌, ℕ, Bool, ◌+◌, ◌<◌, ◌≤◌, List, [], ◌∷◌, ◌++◌, length, sym, ap, arith, append_assoc}
use Rattle.std.proofs.Common.{drop}
use Rattle.std.proofs.lemmas.Bool.Decides.{nat_tests}
use Rattle.cw_rules.specs.declared.{parts.Opened.Opened, tokens.TokKind.TokKind}
use Rattle.cw_lex.specs.{declared.state.State.State, Lexing.answers_at}
use Rattle.cw_rules.specs.Answers.{Answer, Seen, Where, ScanStep, before, note_answers, token_of}
use Rattle.cw_rules.specs.{Pending.pending_notes, Pending.no_notes, model.Cuttings.bytes_at, Tokens.skipped_byte}
use Rattle.cw_lex.specs.model.Coming.{where_of, coming, found_at, AllWithin}
use Rattle.cw_lex.proofs.Walk.{answers-at, answers-here, rest_at}
use Rattle.cw_rules.proofs.Runs.{drop-here}

-- without notes the answers are those of the text
pub coming-quiet : (text : List ℕ) (s : State) → s.pending ≡ no_notes → coming text s
    ≡ answers_at text (where_of s) s.at
coming-quiet text s h = ap (λ p. note_answers (pending_notes text p) ++ answers_at text (where_of s) s.at) h

-- a step that takes bytes
pub step-gives : (text : List ℕ) (old new : State) (a : Answer) (f : ScanStep) → old.pending ≡ no_notes
    → old.at < length text → found_at text (where_of old) old.at ≡ f
    → f.answers ≡ a ∷ note_answers (pending_notes text new.pending) → new.at ≡ (old.at + 1) + f.more
    → new.at ≤ length text → where_of new ≡ f.next → coming text old ≡ a ∷ coming text new
step-gives text old new a f quiet place e answers at within next =
    grind (arith, coming-quiet text old quiet, answers-at text (where_of old) old.at f new.at place e at within)

-- a step that takes none
pub zero-gives : (text : List ℕ) (old new : State) (a : Answer) → old.pending ≡ no_notes → old.at < length text
    → new.at ≡ old.at → found_at text (where_of old) old.at ≡ before (a ∷ note_answers (pending_notes text new.pending))
    (found_at text (where_of new) old.at) → coming text old ≡ a ∷ coming text new
zero-gives text old new a quiet place at e = grind (arith, nat_tests, rest_at, coming-quiet, answers-here, append_assoc)

-- a byte that gives no answer
pub skip-gives : (text : List ℕ) (w : Where) (place : ℕ) → place < length text → found_at text w place ≡ skipped_byte w
    → answers_at text w place ≡ answers_at text w (place + 1)
skip-gives text w place h e = answers-at text w place (skipped_byte w) (place + 1) h e (omega arith) (omega arith)

-- the bytes from a place on, by the first of them
pub bytes-here : (text : List ℕ) (place : ℕ) → place < length text → drop place text ≡ bytes_at text place
bytes-here text place h = drop-here text place h

pub AllWithin-more : (m n : ℕ) (comments : List Opened) → m ≤ n → AllWithin m comments → AllWithin n comments
AllWithin-more m n [] h all = tt
AllWithin-more m n (c ∷ comments) h all = (omega (arith, all.0), AllWithin-more m n comments h all.1)

-- a token at the scanner's place
pub token-here : (text : List ℕ) (place size : ℕ) (kind : TokKind) (hash_line : Bool) (t : Seen) → place < length text
    → t ≡ token_of hash_line kind place size (drop place text)
    → token_of hash_line kind place size (bytes_at text place) ≡ t
token-here text place size kind hash_line t h e = grind (arith, nat_tests, bytes-here)

-- a step that takes bytes and has no notes
pub one-gives : (text : List ℕ) (old new : State) (a b : Answer) (more : ℕ) (next : Where) → old.pending ≡ no_notes
    → old.at < length text → found_at text (where_of old) old.at ≡ record { answers = a ∷ []; more = more; next = next }
    → a ≡ b → new.pending ≡ no_notes → new.at ≡ (old.at + 1) + more → new.at ≤ length text → where_of new ≡ next
    → coming text old ≡ b ∷ coming text new
one-gives text old new a b more next quiet place e same none at within to =
    step-gives text old new b (record { answers = a ∷ []; more = more; next = next }) quiet place e
    (λ i. same i ∷ note_answers (pending_notes text (sym none i))) at within to
