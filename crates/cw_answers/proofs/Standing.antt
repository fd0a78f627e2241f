-- The tokens of a scan stand in the text.
use Rattle.cw_answers.proofs.Terms.{◌≡◌, ℕ, ◌+◌, ◌≤◌, ◌<◌, List, [], ◌∷◌, ◌++◌, All, arith, length, refl, ap, sym}
use Rattle.cw_answers.proofs.Terms.{subst, ◌∙◌, get_or, drop, suc, All-nil, All-cons, All-tail, All-push, Answer, Token}
use Rattle.cw_answers.proofs.Terms.{Begin, Finish, Note, Seen, KeptAnswer, BeginWith, StandsIn, IsWithin, answer_at}
use Rattle.cw_answers.proofs.Terms.{answers_at, Stand, map-append, append_assoc}
use Rattle.cw_rules.specs.Order.{Covers, AreWithin, Stands, LiesWithin}
use Rattle.std.proofs.Math.Seq.{drop-cons}

stands : (text : List ℕ) (from start end : ℕ) (t : Seen) → end ≤ length text → Stands text from t
    → LiesWithin start end t.span → StandsIn text t
stands text from start end t le s (a, b, c) = record { order = b; within = omega arith; slice = s.slice }

pub all-stand : (text : List ℕ) (from start end last : ℕ) (answers : List Answer) → end ≤ length text
    → Covers text from last answers → AreWithin start end answers → All (Stand text) answers
all-stand text from start end last [] le c w = All-nil (Stand text)
all-stand text from start end last (Token t ∷ answers) le (s, _, c) (l, w) = All-cons (Stand text) (Token t) answers
    (stands text from start end t le s l) (all-stand text t.span.end start end last answers le c w)
all-stand text from start end last (Begin t ∷ answers) le (s, c) (l, w) = All-cons (Stand text) (Begin t) answers
    (stands text from start end t le s l) (all-stand text t.span.end start end last answers le c w)
all-stand text from start end last (Finish t ∷ answers) le (s, c) (l, w) = All-cons (Stand text) (Finish t) answers
    (stands text from start end t le s l) (all-stand text t.span.end start end last answers le c w)
all-stand text from start end last (Note kind place ∷ answers) le c w =
    All-cons (Stand text) (Note kind place) answers tt (all-stand text from start end last answers le c w)

-- So much is kept, and the rest is still to come.
pub record Keeping (text inside : List ℕ) (all : List Answer) (kept : List KeptAnswer) (rest : List Answer) : Type 0
  where
    pub same : inside ≡ text
    pub whole : answers_at inside kept ++ rest ≡ all
    pub stand : All (Stand text) rest
    pub within : All (IsWithin (length inside)) kept

pub begin : (text inside : List ℕ) (start end : ℕ) (answers : List Answer) → inside ≡ text → end ≤ length text
    → Covers text start end answers → AreWithin start end answers → Keeping text inside answers [] answers
begin text inside start end answers same le c w = record {
  same = same;
  whole = refl;
  stand = all-stand text start start end end answers le c w;
  within = All-nil (IsWithin (length inside));
}

-- What is kept is what all answers begin with.
pub kept-first : (text inside : List ℕ) (all all' : List Answer) (kept items : List KeptAnswer) (rest : List Answer)
    → all ≡ all' → items ≡ kept → Keeping text inside all kept rest → BeginWith all' (answers_at inside items)
kept-first text inside all all' kept items rest same is h =
    (rest, sym same ∙ sym h.whole ∙ ap (λ (l : List KeptAnswer). answers_at inside l ++ rest) (sym is))

-- One answer more is kept.
pub push : (text inside : List ℕ) (all : List Answer) (kept : List KeptAnswer) (k : KeptAnswer) (x : Answer)
    (old new : List Answer)
    → old ≡ x ∷ new → answer_at text k ≡ x → IsWithin (length text) k → Keeping text inside all kept old
    → Keeping text inside all (kept ++ k ∷ []) new
push text inside all kept k x old new gives is w h = record {
  same = h.same;
  whole = ap (λ l. l ++ new) (map-append (answer_at inside) kept (k ∷ [])) ∙ append_assoc (answers_at inside kept)
      (answer_at inside k ∷ []) new ∙ ap (λ a. answers_at inside kept ++ a ∷ new) (ap (λ t. answer_at t k) h.same ∙ is)
      ∙ ap (λ l. answers_at inside kept ++ l) (sym gives) ∙ h.whole;
  stand = All-tail (Stand text) x new (subst (All (Stand text)) gives h.stand);
  within = All-push (IsWithin (length inside)) kept k h.within (subst (λ t. IsWithin (length t) k) (sym h.same) w);
}

pub pushed : (text inside : List ℕ) (all : List Answer) (kept items : List KeptAnswer) (k : KeptAnswer) (x : Answer)
    (old new : List Answer) → items ≡ kept ++ k ∷ [] → old ≡ x ∷ new → answer_at text k ≡ x → IsWithin (length text) k
    → Keeping text inside all kept old → Keeping text inside all items new
pushed text inside all kept items k x old new e gives is w h =
    subst (λ l. Keeping text inside all l new) (sym e) (push text inside all kept k x old new gives is w h)

pub ahead : (kept : List KeptAnswer) (place : ℕ) (d : KeptAnswer) → place < length kept → drop place kept
    ≡ get_or kept place d ∷ drop (place + 1) kept
ahead kept place d lt = drop-cons kept place d lt ∙ ap (λ n. get_or kept place d ∷ drop n kept) (more place)
  where
    more : (n : ℕ) → suc n ≡ n + 1
    more n = omega arith
