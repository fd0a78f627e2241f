-- A string that its last byte closes is the same whatever stands behind it.
use Rattle.cw_plain_laws.proofs.Terms.{◌≡◌, ℕ, suc, ◌+◌, ◌-◌, Bool, true, false, ◌&&◌, ◌||◌, not, ◌==◌, List, [], ◌∷◌}
use Rattle.cw_plain_laws.proofs.Terms.{◌++◌, length, drop, sym, ap, ◌∙◌, arith, subst, if◌then◌else◌, nat_tests, Inside}
use Rattle.cw_plain_laws.proofs.Terms.{plain, at_start, ended, goes_on, note_here, noted, stepped, takes_next}
use Rattle.cw_plain_laws.proofs.Terms.{with_note, backslash, newline, apostrophe, at_sign, begins_with, TokKind}
use Rattle.cw_rules.specs.Tokens.{string, string_of}
use Rattle.cw_plain_laws.proofs.Again.{IsClosed, has_no_note}
use Rattle.cw_rules.specs.declared.bodies.Body.TheVariants as bodies
use Rattle.cw_rules.specs.declared.tokens.TokKind.TheVariants as kinds
use Rattle.cw_rules.specs.declared.codes.Code.TheVariants as codes

abbrev pub inside : ℕ → ℕ → ℕ → ℕ → Bool → Inside
inside q braces place last along = record {
  body = bodies.Quoted q;
  braces = braces;
  place = place;
  before = last;
  along = along;
}

pub record Ends (q place k : ℕ) (i : Inside) (bytes : List ℕ) : Type 0 where
  pub stop : (ended i bytes).place ≡ place + k
  pub quiet : noted i bytes ≡ []
  pub closing : begins_with (q ∷ []) (drop k bytes) ≡ true

same-byte : (q : ℕ) → (q == q) ≡ true
same-byte q = grind (arith, nat_tests)

stops-there : (q last : ℕ) (rest : List ℕ) → goes_on (inside q 0 0 last false) (q ∷ rest) ≡ false
stops-there q last rest = ap (λ t. false || not (t || (q == newline && not (last == backslash)))) (same-byte q)

quiet-here : (along : Bool) (q braces place last b c : ℕ) (bs : List ℕ) → has_no_note along b (c ∷ bs) → (rest : List ℕ)
    → with_note (note_here (inside q braces place last along) b (c ∷ (bs ++ rest))) place [] ≡ []
quiet-here along q braces place last b c bs none rest = grind arith

pub ends : (q braces place last : ℕ) (along : Bool) (bs : List ℕ) (k : ℕ) (rest : List ℕ) → length bs ≡ suc k
    → IsClosed q last along bs → Ends q place k (inside q braces place last along) (bs ++ rest)
ends q braces place last along [] k rest size closed = absurd closed
ends q braces place last along (b ∷ []) k rest size closed = grind (arith, stops-there, same-byte)
ends q braces place last along (b ∷ c ∷ bs) k rest size closed =
    let i : Inside = inside q braces place last along in
    let next : Inside = stepped i b (c ∷ (bs ++ rest)) in
    let less : length (c ∷ bs) ≡ suc (k - 1) = omega arith in
    let one : k ≡ suc (k - 1) = omega arith in
    let later : Ends q (place + 1) (k - 1) next (c ∷ (bs ++ rest)) = ends q next.braces (place + 1) b
    (not along && takes_next (bodies.Quoted q) b (c ∷ bs)) (c ∷ bs) (k - 1) rest less closed.2 in
    record {
      stop = ap (λ t. (let j : Inside = if t then ended next (c ∷ (bs ++ rest)) else i in j).place)
          closed.0 ∙ later.stop ∙ omega arith;
      quiet = ap (λ t. if t then with_note (note_here i b (c ∷ (bs ++ rest))) place (noted next (c ∷ (bs ++ rest))) else
          []) closed.0 ∙ ap (λ l. with_note (note_here i b (c ∷ (bs ++ rest))) place l) later.quiet
          ∙ quiet-here along q braces place last b c bs closed.1 rest;
      closing = subst (λ n. begins_with (q ∷ []) (drop n (b ∷ c ∷ (bs ++ rest))) ≡ true) (sym one) later.closing;
    }

-- the whole string as it is cut
pub string-of-cut : (kind : TokKind) (opening q place : ℕ) (bs : List ℕ) (k : ℕ) (rest : List ℕ) → length bs ≡ suc k
    → IsClosed q 0 false bs
    → string_of kind opening (at_start (bodies.Quoted q) place) (bs ++ rest) ≡ plain kind (opening + length bs)
string-of-cut kind opening q place bs k rest size closed = grind (arith, ends q 0 place 0 false bs k rest size closed)

pub quote-cut : (place : ℕ) (bs : List ℕ) (k : ℕ) (rest : List ℕ) → length bs ≡ suc k → IsClosed apostrophe 0 false bs
    → string (kinds.Code codes.Quote) 2 apostrophe place (at_sign ∷ apostrophe ∷ (bs ++ rest))
    ≡ plain (kinds.Code codes.Quote) (suc (suc (length bs)))
quote-cut place bs k rest size closed =
    grind (arith, string-of-cut (kinds.Code codes.Quote) 2 apostrophe (place + 2) bs k rest size closed)
