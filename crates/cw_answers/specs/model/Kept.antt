-- The answers of a scan as they are kept: each token by where its bytes lie in the text.
use Rattle.std.specs.Prelude.{◌≡◌, ℕ, ◌≤◌, List, ◌++◌, map, length, slice_range}
use Rattle.cw_rules.specs.Answers.{Answer, Token, Begin, Finish, Note, Seen}
use Rattle.cw_answers.specs.declared.kept_answer.Stretch.{Stretch}
use Rattle.cw_answers.specs.declared.kept_answer.KeptAnswer.{KeptAnswer}
use Rattle.cw_answers.specs.declared.kept_answer.KeptAnswer.TheVariants as kept

abbrev pub seen_at : List ℕ → Stretch → Seen
seen_at text s = record {
  kind = s.kind;
  text = slice_range text s.start s.end;
  span = record { start = s.start; end = s.end };
  hash_line = s.hash_line;
  directive = s.directive;
}

-- the answer that a kept one stands for
abbrev pub answer_at : List ℕ → KeptAnswer → Answer
answer_at text (kept.Token s) = Token (seen_at text s)
answer_at text (kept.Begin s) = Begin (seen_at text s)
answer_at text (kept.Finish s) = Finish (seen_at text s)
answer_at text (kept.Note note) = Note note.kind note.place

abbrev pub answers_at : List ℕ → List KeptAnswer → List Answer
answers_at text answers = map (answer_at text) answers

-- the first of these answers are those, and more may come
abbrev pub BeginWith : List Answer → List Answer → Type 0
BeginWith answers first = (rest : List Answer) × (answers ≡ first ++ rest)

-- its bytes lie in a text of this length
abbrev pub LiesIn : ℕ → Stretch → Type 0
LiesIn length s = (s.start ≤ s.end) × (s.end ≤ length)

abbrev pub IsWithin : ℕ → KeptAnswer → Type 0
IsWithin length (kept.Token s) = LiesIn length s
IsWithin length (kept.Begin s) = LiesIn length s
IsWithin length (kept.Finish s) = LiesIn length s
IsWithin length (kept.Note note) = Unit {0}

-- a token's bytes are those of its span in the text
pub record StandsIn (text : List ℕ) (token : Seen) : Type 0 where
  pub order : token.span.start ≤ token.span.end
  pub within : token.span.end ≤ length text
  pub slice : token.text ≡ slice_range text token.span.start token.span.end
