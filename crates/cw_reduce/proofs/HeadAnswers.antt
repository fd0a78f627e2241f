-- The words of a head are read from answers one after another.
use Rattle.cw_reduce.proofs.Terms.{◌≡◌, ℕ, ◌<◌, ◌≤◌, ◌^◌, length, arith, Bool, true, Option, Some, None, List, [], ◌∷◌}
use Rattle.cw_reduce.proofs.Terms.{◌++◌, option_map, refl, sym, ap, ◌∙◌, subst, list_all, append-nil, both, both-left}
use Rattle.cw_reduce.proofs.Terms.{both-right, Span, Answer, Token, Begin, Note, Seen, seen, Gives, Expectation, Lexed}
use Rattle.cw_reduce.proofs.Terms.{Tok, TokKind, Nest, End, Leaf, Group, group, nests, first_nest, nest, IsNested}
use Rattle.cw_reduce.proofs.Terms.{nested-behind, nest-token, Entry, StoredToken, LeafForm, token_form, names_with}
use Rattle.cw_reduce.proofs.Terms.{is_word, NamesWithin, without_notes, answer_words, StartsBelow, answers_in}
use Rattle.cw_reduce.proofs.Terms.{append_assoc, first_word, later_words, spelled, word_tokens}
use Rattle.cw_rules.specs.declared.tokens.Lexed.TheVariants as lexed
use Rattle.cw_reduce.proofs.ReadSteps.{gives-is}
use Rattle.cw_lex.specs.Heads.{Words, no_word, word_before, head_behind, head_words, without_words}
use Rattle.std.specs.Option.{option_map_or}

-- ## Notes

-- What is the same without the notes at the beginning.
pub record Bare (answers bare : List Answer) : Type 0 where
  pub words : (wanted : Expectation) → answer_words wanted answers ≡ answer_words wanted bare
  pub left : (wanted : Expectation) → without_words wanted answers ≡ without_words wanted bare
  pub starts : (limit : ℕ) → StartsBelow limit answers → StartsBelow limit bare
  pub same : nest bare ≡ nest answers
  pub nested : IsNested answers → IsNested bare
  pub short : length bare ≤ length answers

pub bare : (answers : List Answer) → Bare answers (without_notes answers)
bare (Note note place ∷ answers) = grind (arith, bare answers)
bare answers = grind arith

pub token-shorter : (answers new : List Answer) (t : Tok) → Gives (without_notes answers) (lexed.Token t) new
    → length new < length answers
token-shorter answers new t g = omega (arith, ap length g, (bare answers).short)

-- answers that begin with a token give no other
pub only-token : (t : Seen) (rest new : List Answer) (answer : Lexed) → Gives (Token t ∷ rest) answer new
    → ((u : Tok) → answer ≡ lexed.Token u → ⊥) → ⊥
only-token t rest new answer g n = grind arith

-- ## Words

pub takes-word : (wanted : Expectation) (k : TokKind) (span : Span) (next : Expectation) → head_behind wanted k span
    ≡ Some next
    → is_word k ≡ true
takes-word wanted k span next h = grind arith

pub spelled-behind : (first : List Seen) (word : Seen) (names : List Entry) → spelled (first ++ word ∷ []) names
    ≡ record {
      tokens = (spelled first names).tokens ++ word_tokens word (spelled first names).names;
      names = names_with word.kind word.text (spelled first names).names;
    }
spelled-behind [] word names = rw (append-nil (word_tokens word names))
spelled-behind (w ∷ first) word names =
    let n = names_with w.kind w.text names in
    rw (
      spelled-behind first word n,
      append_assoc (word_tokens w names) (spelled first n).tokens (word_tokens word (spelled first n).names),
    )

form-is : (o : Option LeafForm) (token : StoredToken) → option_map (λ form. form.tokens) o ≡ Some (token ∷ [])
    → option_map_or (λ form. form.tokens) o [] ≡ token ∷ []
form-is o token h = grind arith

-- how far the words have been read
pub record ReadsWords (wanted₀ : Expectation) (all : List Answer) (names₀ : List Entry) (tokens₀ : List StoredToken)
    (wanted : Expectation) (rest : List Answer) (names : List Entry) (tokens : List StoredToken) : Type 0 where
  pub first : List Seen
  pub words : first ++ answer_words wanted rest ≡ answer_words wanted₀ all
  pub names_are : names ≡ (spelled first names₀).names
  pub tokens_are : tokens ≡ tokens₀ ++ (spelled first names₀).tokens
  pub left : without_words wanted rest ≡ without_words wanted₀ all
  pub starts : StartsBelow (2 ^ 32) rest

-- the head ends before these answers
pub record EndsBefore (wanted : Expectation) (rest ahead : List Answer) : Type 0 where
  pub none : answer_words wanted rest ≡ []
  pub is : ahead ≡ without_words wanted rest

pub ends-other : (wanted : Expectation) (rest new : List Answer) (answer : Lexed) → Gives
    (without_notes rest) answer new
    → ((t : Tok) → answer ≡ lexed.Token t → ⊥) → EndsBefore wanted rest (answers_in answer ++ new)
ends-other wanted [] new answer g n = record { none = refl; is = sym (gives-is [] new answer g) }
ends-other wanted (Note note place ∷ rest) new answer g n = let e = ends-other wanted rest new answer g n in
    record { none = e.none; is = e.is }
ends-other wanted (Token t ∷ rest) new answer g n = absurd (only-token t rest new answer g n)
ends-other _ _ new answer g _ = record { none = refl; is = sym (gives-is _ new answer g) }

pub ends-token : (wanted : Expectation) (rest new : List Answer) (t : Tok) → Gives (without_notes rest)
    (lexed.Token t) new
    → head_behind wanted t.kind t.span ≡ None → EndsBefore wanted rest (answers_in (lexed.Token t) ++ new)
ends-token wanted rest new t g e = grind (arith, bare rest)

module _ {wanted₀ : Expectation} {all : List Answer} {names₀ : List Entry} {tokens₀ : List StoredToken} {wanted :
    Expectation}
    {rest : List Answer} {names : List Entry} {tokens : List StoredToken}
    (r : ReadsWords wanted₀ all names₀ tokens₀ wanted rest names tokens) where
  module _ {ahead : List Answer} (e : EndsBefore wanted rest ahead) where
    all-read : answer_words wanted₀ all ≡ r.first
    all-read = sym r.words ∙ (ap (λ ws. r.first ++ ws) e.none ∙ append-nil r.first)

    pub reads-tokens : tokens ≡ tokens₀ ++ (spelled (answer_words wanted₀ all) names₀).tokens
    reads-tokens = r.tokens_are ∙ ap (λ ws. tokens₀ ++ (spelled ws names₀).tokens) (sym all-read)

    pub reads-names : names ≡ (spelled (answer_words wanted₀ all) names₀).names
    reads-names = r.names_are ∙ ap (λ ws. (spelled ws names₀).names) (sym all-read)

    pub reads-left : ahead ≡ without_words wanted₀ all
    reads-left = e.is ∙ r.left

  -- what stands behind the notes stands low as well
  pub reads-starts : (answer : Lexed) (new : List Answer) → Gives (without_notes rest) answer new
      → StartsBelow (2 ^ 32) (answers_in answer ++ new)
  reads-starts answer new g = subst (StartsBelow (2 ^ 32)) (gives-is (without_notes rest) new answer g)
      ((bare rest).starts (2 ^ 32) r.starts)

  -- one word more
  module _ (t : Tok) (new : List Answer) (g : Gives (without_notes rest) (lexed.Token t) new) (next : Expectation)
      (e : head_behind wanted t.kind t.span ≡ Some next) (names' : List Entry) (named : names'
      ≡ names_with t.kind t.text.now names) where
    behind : spelled (r.first ++ seen t ∷ []) names₀ ≡ record {
      tokens = (spelled r.first names₀).tokens ++ word_tokens (seen t) names;
      names = names_with t.kind t.text.now names;
    }
    behind = grind (arith, spelled-behind, seen, spelled, word_tokens, names_with)

    here : answer_words wanted rest ≡ seen t ∷ answer_words next new
    here = rw ((bare rest).words wanted, g, e, answer_words)

    there : without_words wanted rest ≡ without_words next new
    there = rw ((bare rest).left wanted, g, e, without_words)

    all-words : (r.first ++ seen t ∷ []) ++ answer_words next new ≡ answer_words wanted₀ all
    all-words = grind (arith, append_assoc, seen, answer_words, here)

    pub word-within : NamesWithin (answer_words wanted₀ all) names₀ names'
    word-within = grind (arith, seen, answer_words, all-words, behind)

    pub reads-word : (token : StoredToken) (tokens' : List StoredToken) → option_map (λ form. form.tokens)
        (token_form t.kind t.text.now t.hash_line t.directive t.span.start names) ≡ Some (token ∷ [])
        → tokens' ≡ tokens ++ token ∷ [] → ReadsWords wanted₀ all names₀ tokens₀ next new names' tokens'
    reads-word token tokens' form pushed = record {
      first = r.first ++ seen t ∷ [];
      words = all-words;
      names_are = named ∙ ap (λ s. s.names) (sym behind);
      tokens_are = rw (
        pushed,
        r.tokens_are,
        append_assoc tokens₀ (spelled r.first names₀).tokens (token ∷ []),
        ← form-is (token_form t.kind t.text.now t.hash_line t.directive t.span.start names) token form,
        behind,
      );
      left = sym there ∙ r.left;
      starts = (subst (StartsBelow (2 ^ 32)) g ((bare rest).starts (2 ^ 32) r.starts)).1;
    }

-- ## Words of answers and of their nest

group-words : (wanted : Expectation) (t : Seen) (ns : List Nest) → (head_words wanted (first_nest (group t ns))).words
    ≡ []
group-words wanted t ns = grind arith

pub words-same : (wanted : Expectation) (answers : List Answer) → IsNested answers
    → (head_words wanted (nest answers)).words
    ≡ answer_words wanted answers
words-same wanted (Begin t ∷ answers) h = group-words wanted t (nests answers)
words-same wanted (Note note place ∷ answers) h = words-same wanted answers h
words-same wanted (Token t ∷ answers) h = ap (λ n. (head_words wanted n).words) (nest-token t answers h)
    ∙ by (head_behind wanted t.kind t.span) (λ next. words-same next answers (nested-behind t answers h))
  where
    by : (o : Option Expectation) → ((next : Expectation) → (head_words next (nest answers)).words
        ≡ answer_words next answers)
        → (elim o as (λ o. Words) [
          | Some next ↦ word_before t (head_words next (nest answers))
          | None ↦ no_word (Leaf t (nest answers))
        ]).words
        ≡ (elim o as (λ o. List Seen) [ Some next ↦ t ∷ answer_words next answers | None ↦ [] ])
    by None more = refl
    by (Some next) more = ap (λ ws. t ∷ ws) (more next)
words-same _ _ _ = refl

abbrev pub word_kind : Seen → Bool
word_kind word = is_word word.kind

-- what holds of no word, and with one more word where it holds behind it, holds of the words of a head
pub head-words-by : (P : Expectation → Nest → Words → Type 0) → ((wanted : Expectation) (n : Nest)
    → P wanted n (no_word n))
    → ((wanted next : Expectation) (t : Seen) (rest : Nest) → head_behind wanted t.kind t.span ≡ Some next
    → P next rest (head_words next rest) → P wanted (Leaf t rest) (word_before t (head_words next rest)))
    → (wanted : Expectation) (n : Nest) → P wanted n (head_words wanted n)
head-words-by P none more wanted End = none wanted End
head-words-by P none more wanted (Group t inner rest) = none wanted (Group t inner rest)
head-words-by P none more wanted (Leaf t rest) = by (head_behind wanted t.kind t.span) refl
    (λ next. head-words-by P none more next rest)
  where
    by : (o : Option Expectation) → head_behind wanted t.kind t.span ≡ o → ((next : Expectation) → P next rest
        (head_words next rest)) → P wanted (Leaf t rest) (elim o as (λ o. Words) [
          | Some next ↦ word_before t (head_words next rest)
          | None ↦ no_word (Leaf t rest)
        ])
    by None e later = none wanted (Leaf t rest)
    by (Some next) e later = more wanted next t rest e (later next)

pub head-words-fit : (wanted : Expectation) (n : Nest) → list_all word_kind (head_words wanted n).words ≡ true
head-words-fit = head-words-by (λ wanted n ws. list_all word_kind ws.words ≡ true) (λ wanted n. refl)
    (λ wanted next t rest e h. both (word_kind t) (list_all word_kind (head_words next rest).words)
    (takes-word wanted t.kind t.span next e) h)

-- the first of two words, and the second
pub first-all : (p : Seen → Bool) (words : List Seen) → list_all p words ≡ true → list_all p (first_word words) ≡ true
first-all p words h = grind (arith, both, both-left, list_all)

pub later-all : (p : Seen → Bool) (words : List Seen) → list_all p words ≡ true → list_all p (later_words words) ≡ true
later-all p words h = grind (arith, both-right, list_all)

pub words-fit : (wanted : Expectation) (answers : List Answer) → IsNested answers
    → list_all word_kind (answer_words wanted answers) ≡ true
words-fit wanted answers h = rw (← words-same wanted answers h) (head-words-fit wanted (nest answers))
