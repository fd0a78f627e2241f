-- Plain text of simple tokens is these tokens with white space between them, where they would touch.
use Rattle.cw_plain_laws.proofs.Terms.{◌≡◌, ℕ, zero, suc, Bool, true, false, ◌&&◌, ◌||◌, List, [], ◌∷◌, ◌++◌, Option}
use Rattle.cw_plain_laws.proofs.Terms.{Some, None, refl, sym, ap, ◌∙◌, arith, cond, length, subst, inl, inr, ◌==◌}
use Rattle.cw_plain_laws.proofs.Terms.{if◌then◌else◌, list_any, codes, nat_lt, append-nil, append_assoc, take_all}
use Rattle.cw_plain_laws.proofs.Terms.{flat_map-append, TokKind, is_in, is_mark, and-none, at-byte, or-false, Control}
use Rattle.cw_plain_laws.proofs.Terms.{answers_at, fresh_at, last_at, Piece, Word, Part, Ending, Opening, Closing, Move}
use Rattle.cw_plain_laws.proofs.Terms.{Nothing, Stretch, Run, Other, Ink, Own, Added, Layout, behind_run, blank_before}
use Rattle.cw_plain_laws.proofs.Terms.{break_text, clash, indent, ink_bytes, ink_text, is_bracket, is_joining, is_wordy}
use Rattle.cw_plain_laws.proofs.Terms.{laid, laid_from, last_behind, signs_touch, words_touch, piece_inks, run_text}
use Rattle.cw_plain_laws.proofs.Terms.{stretches, level_behind, backed, cut_off, all_unplaced, part_tokens, Answer}
use Rattle.std.proofs.lemmas.List.Concat.{flat_map-cons}
use Rattle.cw_trees.specs.Printing.{is_cancel, strongest, is_backup}
use Rattle.cw_plain.specs.Lines.{at_start}
use Rattle.cw_plain_laws.proofs.{Simple.AreSimple, Simple.all_words, AgainLaws.again, AgainLaws.white-gives}
use Rattle.cw_plain_laws.proofs.{Tests.or-case}
use Rattle.cw_plain_laws.proofs.Again.{IsAlone, IsApart, last_of, Spaced, spaced_text, AreSpaced, AreWhite, words}
use Rattle.cw_plain_laws.proofs.Again.{in_part, alone_token}
use Rattle.cw_rules.specs.declared.classes.Class.TheVariants as classes

-- ## White space

white-append : (xs bs : List ℕ) → AreWhite xs → AreWhite bs → AreWhite (xs ++ bs)
white-append [] bs a b = b
white-append (x ∷ xs) bs a b = (a.0, white-append xs bs a.1 b)

white-indent : (n : ℕ) → AreWhite (indent n)
white-indent zero = tt
white-indent (suc n) = (refl, (refl, white-indent n))

white-break : (inner : Bool) (level strength : ℕ) → AreWhite (break_text inner level strength)
white-break inner level strength = grind (arith, white-indent)

pub white-run : (l : Layout) (run : List Control) → AreWhite (run_text l run)
white-run l run = by (list_any is_cancel run)
  where
    text : List ℕ
    text = break_text (nat_lt 0 l.depth) (backed (list_any is_backup run) (level_behind l.level run)) (strongest run)

    by : (t : Bool) → AreWhite (if t then [] else text)
    by true = tt
    by false = white-break (nat_lt 0 l.depth) (backed (list_any is_backup run) (level_behind l.level run))
        (strongest run)

-- what begins no word, string, bracket or sign of several bytes
clash-none : (x z : ℕ) → (is_wordy z || is_mark z) ≡ false → is_bracket z ≡ false → is_joining z ≡ false
    → clash x z ≡ false
clash-none x z w b j = or-false (words_touch x z) (signs_touch x z) ((λ i. is_wordy x && w i) ∙ and-none (is_wordy x))
    (or-false (is_bracket x && is_bracket z) (is_joining x && is_joining z) ((λ i. is_bracket x && b i)
    ∙ and-none (is_bracket x)) ((λ i. is_joining x && j i) ∙ and-none (is_joining x)))

-- white space touches nothing
white-free : (x z : ℕ) → is_in classes.White z ≡ true → clash x z ≡ false
white-free x z white = elim (or-case (z == 10) (is_in classes.Blank z) white) [
  | inl e ↦ at 10 e (clash-none x 10 refl refl refl)
  | inr blank ↦ elim (or-case (z == 32 || z == 9 || z == 11 || z == 12) (z == 13) blank) [
    | inr e ↦ at 13 e (clash-none x 13 refl refl refl)
    | inl b ↦ elim (or-case (z == 32 || z == 9 || z == 11) (z == 12) b) [
      | inr e ↦ at 12 e (clash-none x 12 refl refl refl)
      | inl b ↦ elim (or-case (z == 32 || z == 9) (z == 11) b) [
        | inr e ↦ at 11 e (clash-none x 11 refl refl refl)
        | inl b ↦ elim (or-case (z == 32) (z == 9) b) [
          | inr e ↦ at 9 e (clash-none x 9 refl refl refl)
          | inl e ↦ at 32 e (clash-none x 32 refl refl refl)
        ]
      ]
    ]
  ]
]
  where
    at : (wanted : ℕ) → (z == wanted) ≡ true → clash x wanted ≡ false → clash x z ≡ false
    at wanted e free = at-byte (λ y. clash x y ≡ false) z wanted e free

abbrev IsApartBy : Option ℕ → List ℕ → Type 0
IsApartBy None bytes = Unit {0}
IsApartBy (Some last) bytes = IsApart last bytes

record Splits (last : Option ℕ) (text : List ℕ) (tokens : List Answer) : Type 0 where
  white : List ℕ
  ts : List Spaced
  are_white : AreWhite white
  are : AreSpaced ts
  same : text ≡ white ++ spaced_text ts
  tokens_are : words ts ≡ tokens
  apart : IsApartBy last (white ++ spaced_text ts)

nothing-apart : (last : Option ℕ) → IsApartBy last []
nothing-apart None = tt
nothing-apart (Some x) = tt

white-apart : (last : Option ℕ) (w : ℕ) (rest : List ℕ) → is_in classes.White w ≡ true → IsApartBy last (w ∷ rest)
white-apart None w rest white = tt
white-apart (Some x) w rest white = white-free x w white

-- behind white space
behind-white : (last : Option ℕ) (ws text : List ℕ) (tokens : List Answer) → AreWhite ws
    → Splits (cut_off last ws) text tokens → Splits last (ws ++ text) tokens
behind-white last [] text tokens white s = s
behind-white last (w ∷ ws) text tokens white s = record {
  white = (w ∷ ws) ++ s.white;
  ts = s.ts;
  are_white = white-append (w ∷ ws) s.white white s.are_white;
  are = s.are;
  same = ap (λ l. (w ∷ ws) ++ l) s.same ∙ sym (append_assoc (w ∷ ws) s.white (spaced_text s.ts));
  tokens_are = s.tokens_are;
  apart = white-apart last w ((ws ++ s.white) ++ spaced_text s.ts) white.0;
}

last-of : (b : ℕ) (bs : List ℕ) (last : Option ℕ) → last_behind last (b ∷ bs) ≡ Some (last_of b bs)
last-of b [] last = refl
last-of b (c ∷ bs) last = last-of c bs (Some b)

-- a token, with the blank that may part it
a-token : (last : Option ℕ) (k : TokKind) (b : ℕ) (bs text : List ℕ) (tokens : List Answer) → IsAlone k b bs
    → Splits (Some (last_of b bs)) text tokens
    → Splits last (blank_before last (b ∷ bs) ++ ((b ∷ bs) ++ text)) (alone_token k (b ∷ bs) ∷ tokens)
a-token None k b bs text tokens alone s = record {
  white = [];
  ts = record { kind = k; first = b; rest = bs; space = s.white } ∷ s.ts;
  are_white = tt;
  are = (alone, s.are_white, s.apart, s.are);
  same = ap (λ l. (b ∷ bs) ++ l) s.same;
  tokens_are = ap (λ l. alone_token k (b ∷ bs) ∷ l) s.tokens_are;
  apart = tt;
}
a-token (Some x) k b bs text tokens alone s = by (clash x b) refl
  where
    t : Spaced
    t = record { kind = k; first = b; rest = bs; space = s.white }

    by : (c : Bool) → clash x b ≡ c
        → Splits (Some x) (cond c (codes " ") [] ++ ((b ∷ bs) ++ text)) (alone_token k (b ∷ bs) ∷ tokens)
    by true e = record {
      white = codes " ";
      ts = t ∷ s.ts;
      are_white = (refl, tt);
      are = (alone, s.are_white, s.apart, s.are);
      same = ap (λ l. codes " " ++ ((b ∷ bs) ++ l)) s.same;
      tokens_are = ap (λ l. alone_token k (b ∷ bs) ∷ l) s.tokens_are;
      apart = white-free x 32 refl;
    }
    by false e = record {
      white = [];
      ts = t ∷ s.ts;
      are_white = tt;
      are = (alone, s.are_white, s.apart, s.are);
      same = ap (λ l. (b ∷ bs) ++ l) s.same;
      tokens_are = ap (λ l. alone_token k (b ∷ bs) ∷ l) s.tokens_are;
      apart = e;
    }

bytes-of : (inks more : List Ink) → ink_text (inks ++ more) ≡ ink_text inks ++ ink_text more
bytes-of inks more = flat_map-append ink_bytes inks more

-- no inner text is open, so nothing else changes the layout
splits : (l : Layout) (ss : List Stretch) (are : AreSimple ss)
    → Splits l.last (ink_text (laid_from l ss)) (all_words ss are)
splits l [] are = record {
  white = [];
  ts = [];
  are_white = tt;
  are = tt;
  same = refl;
  tokens_are = refl;
  apart = nothing-apart l.last;
}
splits l (Run run ∷ ss) are = subst (λ t. Splits l.last t (all_words ss are.1)) (sym (flat_map-cons ink_bytes
    (Added (run_text l run)) (laid_from (behind_run l run) ss))) (behind-white l.last (run_text l run) (ink_text
    (laid_from (behind_run l run) ss)) (all_words ss are.1) (white-run l run) (splits (behind_run l run) ss are.1))
splits l (Other (Word number []) ∷ ss) are = subst (λ t. Splits l.last t (all_words ss are.1))
    (sym (bytes-of (piece_inks l.last (Word number [])) (laid_from l ss)
    ∙ ap (λ t. t ++ ink_text (laid_from l ss)) (empty l.last))) (splits l ss are.1)
  where
    empty : (last : Option ℕ) → ink_text (piece_inks last (Word number [])) ≡ []
    empty None = refl
    empty (Some x) = refl
splits l (Other (Word number (b ∷ bs)) ∷ ss) are =
    let next : Layout = record l { last = last_behind l.last (b ∷ bs) } in
    let rest = ink_text (laid_from next ss) in
    let front = blank_before l.last (b ∷ bs) in
    subst (λ t. Splits l.last t (alone_token are.0.0 (b ∷ bs) ∷ all_words ss are.1)) (sym (bytes-of
    (piece_inks l.last (Word number (b ∷ bs))) (laid_from next ss) ∙ ap (λ t. t ++ rest) (two front (b ∷ bs) number)
    ∙ append_assoc front (b ∷ bs) rest)) (a-token l.last are.0.0 b bs rest (all_words ss are.1) are.0.1
    (subst (λ last. Splits last rest (all_words ss are.1)) (last-of b bs l.last) (splits next ss are.1)))
  where
    two : (front bytes : List ℕ) (number : ℕ) → ink_text (Added front ∷ Own number bytes ∷ []) ≡ front ++ bytes
    two front bytes number = flat_map-cons ink_bytes (Added front) (Own number bytes ∷ [])
        ∙ ap (λ t. front ++ t) (flat_map-cons ink_bytes (Own number bytes) [] ∙ append-nil bytes)
splits l (Other Nothing ∷ ss) are = splits l ss are.1
splits l (Other (Part number bytes) ∷ ss) are = absurd are.0
splits l (Other (Ending bytes) ∷ ss) are = absurd are.0
splits l (Other Opening ∷ ss) are = absurd are.0
splits l (Other Closing ∷ ss) are = absurd are.0
splits l (Other (Move control) ∷ ss) are = absurd are.0

-- Plain text of simple tokens is scanned as these tokens.
pub plain-again : (ps : List Piece) (are : AreSimple (stretches ps)) → all_unplaced (part_tokens (ink_text (laid ps)))
    ≡ all_words (stretches ps) are
plain-again ps are =
    let s = splits at_start (stretches ps) are in
    let text = ink_text (laid ps) in
    ap (λ l. all_unplaced (answers_at l (in_part true) 0)) (take_all (length text) text (omega arith))
    ∙ ap (λ l. all_unplaced (answers_at l (in_part true) 0)) s.same
    ∙ white-gives true s.white (spaced_text s.ts) (words s.ts) s.are_white (again true s.ts s.are)
    (fresh_at (s.white ++ spaced_text s.ts) 0) (last_at (s.white ++ spaced_text s.ts) 0) 0 ∙ s.tokens_are
