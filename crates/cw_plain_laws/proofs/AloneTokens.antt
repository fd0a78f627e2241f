-- What begins at a place of a C part: white space, one token, or what is none of the tokens that are scanned again.
-- These are tokens by themselves.
use Rattle.cw_plain_laws.proofs.Terms.{◌≡◌, ℕ, zero, suc, ◌+◌, ◌-◌, ◌≤◌, Bool, true, false, ◌&&◌, ◌||◌, ◌==◌, nat_lt}
use Rattle.cw_plain_laws.proofs.Terms.{List, [], ◌∷◌, ◌++◌, codes, length, take, drop, refl, sym, ap, subst, ◌∙◌, arith}
use Rattle.cw_plain_laws.proofs.Terms.{not, Option, Some, slice_index, if◌then◌else◌, eqb-true, nat_tests, length-take}
use Rattle.cw_plain_laws.proofs.Terms.{take-append-drop, answers, joined, still_fresh, tokens_of, AreSimpleTokens}
use Rattle.cw_plain_laws.proofs.Terms.{BeginsBefore, is_hash, is_program, is_simple, both-left, both-right, and-none}
use Rattle.cw_plain_laws.proofs.Terms.{if-both, constant-le, run-le, AreNotes, Answer, Token, Begin, Finish, Note, Cut}
use Rattle.cw_plain_laws.proofs.Terms.{ScanStep, Seen, Where, note_answers, plain, at_start, extent, at_sign, begins}
use Rattle.cw_plain_laws.proofs.Terms.{begins_by, begins_with, hash, is_in, is_letter, is_mark, less, run, slash, star}
use Rattle.cw_plain_laws.proofs.Terms.{newline, is_prefix_letter, prefix_size, constant, all_signs, longest, spelling}
use Rattle.cw_plain_laws.proofs.Terms.{code_text_apart, found_apart, NoteAt, Code, CPart, TokKind}
use Rattle.cw_plain_laws.proofs.{AgainLaws.at-mark, CutStrings.sign-alone, CutStrings.string-closed, Tests.or-case}
use Rattle.cw_plain_laws.proofs.Again.{Bare, IsAloneText, IsClosed, IsString, Prefix, in_part, prefix_bytes}
use Rattle.cw_plain_laws.proofs.CutConstants.{constant-cut, constant-last, run-cut}
use Rattle.cw_rules.specs.{Codes.begins_section, Codes.code_at, Codes.code_of, declared.parts.Start.Start}
use Rattle.cw_rules.specs.{declared.signs.Sign.Sign, Answers.cut_token}
use Rattle.cw_rules.specs.Tokens.{code_by, code_token, effect_in, in_code, in_hash_line, is_space, moved, one, passed}
use Rattle.cw_rules.specs.Tokens.{section, section_code, skipped_byte, identifier, string, start_of}
use Rattle.cw_rules.specs.declared.bodies.Body.TheVariants as bodies
use Rattle.cw_rules.specs.declared.classes.Class.TheVariants as classes
use Rattle.cw_rules.specs.declared.codes.Code.TheVariants as codes
use Rattle.cw_rules.specs.declared.parts.Start.TheVariants as start
use Rattle.cw_rules.specs.declared.tokens.Directive.TheVariants.{No}
use Rattle.cw_rules.specs.declared.tokens.TokKind.TheVariants as kinds
use Rattle.std.specs.Option.{option_map_or}

-- ## What is cut is a token by itself

-- where all of the same bytes is cut without what stands behind them
whole-cut : (f : List ℕ → ℕ) → ((t r : List ℕ) → f (t ++ r) ≡ length t → f t ≡ length t) → (bytes : List ℕ)
    → f bytes ≤ length bytes → f (take (f bytes) bytes) ≡ length (take (f bytes) bytes)
whole-cut f cut bytes most = grind (arith, take-append-drop (f bytes) bytes, length-take (f bytes) bytes)

abbrev IsCutAlone : TokKind → (List ℕ → ℕ) → ℕ → List ℕ → Type 0
IsCutAlone k f b bs = IsAloneText k (take (f (b ∷ bs)) (b ∷ bs))

identifier-alone : (b : ℕ) (bs : List ℕ) → is_letter b ≡ true → IsCutAlone kinds.Identifier (run classes.Word) b bs
identifier-alone b bs letter =
    let word : is_in classes.Word b ≡ true = ap (λ t. t || is_in classes.Digit b) letter in
    let m = run classes.Word bs in
    let e : run classes.Word (b ∷ bs) ≡ suc m = ap (λ t. if t then 1 + m else 0) word ∙ omega arith in
    let whole : run classes.Word (take (suc m) (b ∷ bs)) ≡ length (take (suc m) (b ∷ bs)) = subst
    (λ n. run classes.Word (take n (b ∷ bs)) ≡ length (take n (b ∷ bs))) e (whole-cut (run classes.Word)
    (λ t r all. run-cut classes.Word t r (omega arith) ∙ all) (b ∷ bs) (run-le classes.Word (b ∷ bs))) in
    subst (λ n. IsAloneText kinds.Identifier (take n (b ∷ bs))) (sym e) (letter, whole)

some-more : (n : ℕ) → nat_lt 0 n ≡ true → n ≡ suc (n - 1)
some-more n e = grind arith

constant-alone : (b : ℕ) (bs : List ℕ) → is_letter b ≡ false → nat_lt 0 (constant (b ∷ bs)) ≡ true
    → IsCutAlone kinds.Constant constant b bs
constant-alone b bs letter some =
    let m = constant (b ∷ bs) - 1 in
    let e : constant (b ∷ bs) ≡ suc m = some-more (constant (b ∷ bs)) some in
    let whole : constant (take (suc m) (b ∷ bs)) ≡ length (take (suc m) (b ∷ bs)) = subst (λ n. constant
    (take n (b ∷ bs)) ≡ length (take n (b ∷ bs))) e (whole-cut constant constant-cut (b ∷ bs) (constant-le (b ∷ bs))) in
    subst (λ n. IsAloneText kinds.Constant (take n (b ∷ bs))) (sym e) (letter, whole, constant-last b (take m bs) whole)

-- ## What begins at a place

-- no white space, and none of the tokens that are scanned again
abbrev IsOther : List Answer → Type 0
IsOther [] = ⊥
IsOther (Token t ∷ answers) = (is_simple t.kind ≡ false) × (is_program t.kind ≡ false)
IsOther (answer ∷ answers) = Unit {0}

-- outside `#` lines, and no word of a directive
abbrev pub IsOutside : Seen → Type 0
IsOutside t = (t.hash_line ≡ false) × (t.directive ≡ No)

data Tells (first : Bool) (f : ScanStep) : Type 0 where
  blank : f ≡ skipped_byte (in_part first) → Tells first f
  token : (t : Seen) (notes : List Answer) → f.answers ≡ Token t ∷ notes → AreNotes notes → f.next ≡ in_part false
      → IsOutside t → (is_simple t.kind ≡ true → notes ≡ [] → IsAloneText t.kind t.text) → Tells first f
  other : IsOther f.answers → Tells first f

notes-are : (notes : List NoteAt) → AreNotes (note_answers notes)
notes-are [] = tt
notes-are (n ∷ notes) = notes-are notes

none-noted : (notes : List NoteAt) → note_answers notes ≡ [] → notes ≡ []
none-noted [] e = refl
none-noted (n ∷ notes) e = absurd cc

tells-one : (first hash_line : Bool) (next : Where) (place : ℕ) (bytes : List ℕ) (cut : Cut) → next ≡ in_part false
    → hash_line ≡ false → cut.directive ≡ No
    → (is_simple cut.kind ≡ true → cut.notes ≡ [] → IsAloneText cut.kind (take cut.size bytes))
    → Tells first (one hash_line next place bytes cut)
tells-one first hash_line next place bytes cut on line word alone =
    token (cut_token hash_line cut place bytes) (note_answers cut.notes) refl (notes-are cut.notes) on
    (line, word) (λ simple quiet. alone simple (none-noted cut.notes quiet))

passed-on : (first : Bool) → moved (in_part first) (passed (in_part first).part) ≡ in_part false
passed-on first = grind arith

no-line : (first : Bool) → in_hash_line (in_part first).part ≡ false
no-line first = grind arith

-- ## Codes

abbrev is_quote : Code → Bool
is_quote codes.Quote = true
is_quote code = false

abbrev IsQuote : ℕ → Code → Type 0
IsQuote byte code = is_quote code ≡ true → (byte == 39) ≡ true

quote-byte : (byte : ℕ) → IsQuote byte (code_of byte)
quote-byte byte = grind (arith, nat_tests, if-both)

quote-bytes : (b : ℕ) (bytes : List ℕ) (place : ℕ) → (b == at_sign) ≡ true → codes.Quote ≡ code_at bytes
    → (code_token codes.Quote place (b ∷ bytes)).notes ≡ []
    → IsAloneText (kinds.Code codes.Quote) (take (code_token codes.Quote place (b ∷ bytes)).size (b ∷ bytes))
quote-bytes b [] place at e quiet = absurd cc
quote-bytes b (c ∷ bytes) place at e quiet =
    let mark : c ≡ 39 = eqb-true c 39 (quote-byte c (ap is_quote (sym e))) in
    let closed : IsClosed 39 0 false (take (extent (at_start (bodies.Quoted 39) (place + 2)) bytes).size bytes) =
    string-closed 39 (place + 2) bytes quiet in
    let n = (extent (at_start (bodies.Quoted 39) (place + 2)) bytes).size in
    let size : 2 + n ≡ suc (suc n) = omega arith in
    subst (λ k. IsAloneText (kinds.Code codes.Quote) (take k (b ∷ c ∷ bytes))) (sym size)
    (eqb-true b 64 at, (mark, closed))

tells-code : (first : Bool) (code : Code) (place b : ℕ) (bytes : List ℕ) → (b == at_sign) ≡ true → code ≡ code_at bytes
    → Tells first
    (code_by (effect_in (in_part first).part (in_part first).comments code) code (in_part first) place (b ∷ bytes))
tells-code true codes.Program place b bytes at e = tells-one true false (in_part false) place (b ∷ bytes)
    (plain (kinds.Code codes.Program) 2) refl refl refl (λ simple quiet. absurd (let e : false ≡ true = simple in cc))
tells-code true codes.Quote place b bytes at e = tells-one true false (in_part false) place (b ∷ bytes)
    (code_token codes.Quote place (b ∷ bytes)) refl refl refl (λ simple quiet. quote-bytes b bytes place at e quiet)
tells-code false codes.Quote place b bytes at e = tells-one false false (in_part false) place (b ∷ bytes)
    (code_token codes.Quote place (b ∷ bytes)) refl refl refl (λ simple quiet. quote-bytes b bytes place at e quiet)
tells-code _ _ _ _ _ _ _ = other (refl, refl)

-- ## Tokens

-- a string begins with these bytes, by this mark
record Opens (mark : ℕ) (bytes : List ℕ) : Type 0 where
  prefix : Prefix
  rest : List ℕ
  mark_is : is_mark mark ≡ true
  same : bytes ≡ prefix_bytes prefix ++ mark ∷ rest

-- the size of a prefix
prefix-is : (p : Prefix) (mark : ℕ) (rest : List ℕ) → is_mark mark ≡ true
    → prefix_size (prefix_bytes p ++ mark ∷ rest) ≡ length (prefix_bytes p)
prefix-is p mark rest is = grind (arith, at-mark)

letter-opens : (b mark : ℕ) (rest : List ℕ) → is_prefix_letter b ≡ true → is_mark mark ≡ true
    → Opens mark (b ∷ mark ∷ rest)
letter-opens b mark rest letter is = grind (arith, or-case, eqb-true)

-- `u8` and a mark, at the first bytes
eight-opens : (b : ℕ) (bytes : List ℕ) → (begins_with (codes "u8") (b ∷ bytes) && begins_by is_mark (drop 1 bytes))
    ≡ true → Opens (slice_index (b ∷ bytes) 2) (b ∷ bytes)
eight-opens b bytes h = grind (arith, and-none, both-left, eqb-true, both-right)

one-opens : (b : ℕ) (bytes : List ℕ) → (is_prefix_letter b && begins_by is_mark bytes) ≡ true
    → Opens (slice_index (b ∷ bytes) 1) (b ∷ bytes)
one-opens b [] h = absurd (let k : true ≡ false = sym h ∙ and-none (is_prefix_letter b) in cc)
one-opens b (mark ∷ rest) h = letter-opens b mark rest (both-left (is_prefix_letter b) (is_mark mark) h)
    (both-right (is_prefix_letter b) (is_mark mark) h)

-- where a prefix has a size, the mark stands behind it
prefix-opens : (b : ℕ) (bytes : List ℕ) → nat_lt 0 (prefix_size (b ∷ bytes)) ≡ true
    → Opens (slice_index (b ∷ bytes) (prefix_size (b ∷ bytes))) (b ∷ bytes)
prefix-opens b bytes = if-both Here (is_prefix_letter b && begins_by is_mark bytes) 1 _ (λ h e. one-opens b bytes h)
    (λ n. if-both Here (begins_with (codes "u8") (b ∷ bytes) && begins_by is_mark (drop 1 bytes)) 2 0
    (λ h e. eight-opens b bytes h) (λ n e. absurd cc))
  where
    Here : ℕ → Type 0
    Here size = nat_lt 0 size ≡ true → Opens (slice_index (b ∷ bytes) size) (b ∷ bytes)

-- A string without a note, as far as it goes behind its opening bytes.
abbrev IsCutString : ℕ → ℕ → ℕ → List ℕ → Type 0
IsCutString opening mark place bytes = (string kinds.Quoted opening mark place bytes).notes ≡ []
    → IsAloneText kinds.Quoted (take (string kinds.Quoted opening mark place bytes).size bytes)

a-string : (p : Prefix) (mark : ℕ) (body : List ℕ) → is_mark mark ≡ true → IsClosed mark 0 false body
    → IsString (prefix_bytes p ++ mark ∷ body)
a-string p mark body is closed = record {
  prefix = p;
  mark = mark;
  body = body;
  mark_is = is;
  closed = closed;
  same = refl;
}

string-text : (p : Prefix) (mark : ℕ) (body : List ℕ) → IsString (prefix_bytes p ++ mark ∷ body)
    → IsAloneText kinds.Quoted (prefix_bytes p ++ mark ∷ body)
string-text p mark body is = grind arith

-- what stands behind the opening bytes, and as many of it as are taken
behind-opening : (xs : List ℕ) (y : ℕ) (ys : List ℕ) → drop (length xs + 1) (xs ++ y ∷ ys) ≡ ys
behind-opening [] y ys = refl
behind-opening (x ∷ xs) y ys = grind (arith, behind-opening xs y ys)

with-opening : (xs : List ℕ) (y : ℕ) (ys : List ℕ) (n : ℕ)
    → take ((length xs + 1) + n) (xs ++ y ∷ ys) ≡ xs ++ y ∷ take n ys
with-opening [] y ys n = grind arith
with-opening (x ∷ xs) y ys n =
    let one : (length (x ∷ xs) + 1) + n ≡ suc ((length xs + 1) + n) = omega arith in
    ap (λ k. take k ((x ∷ xs) ++ y ∷ ys)) one ∙ ap (λ l. x ∷ l) (with-opening xs y ys n)

opened-cut : (p : Prefix) (mark : ℕ) (rest : List ℕ) (place : ℕ) → is_mark mark ≡ true
    → IsCutString (length (prefix_bytes p) + 1) mark place (prefix_bytes p ++ mark ∷ rest)
opened-cut p mark rest place is quiet =
    grind (arith, prefix_bytes, behind-opening, string-closed, with-opening, string-text, a-string)

string-alone : (mark : ℕ) (bytes : List ℕ) (place : ℕ) → Opens mark bytes
    → IsCutString (prefix_size bytes + 1) mark place bytes
string-alone mark bytes place opens = grind (arith, prefix_bytes, prefix-is, opened-cut)

-- what is known where C text begins so
abbrev Says : ℕ → List ℕ → Start → Type 0
Says b bytes start.Identifier = is_letter b ≡ true
Says b bytes start.Constant = (is_letter b ≡ false) × (nat_lt 0 (constant (b ∷ bytes)) ≡ true)
Says b bytes (start.Quoted mark) = Opens mark (b ∷ bytes)
Says b bytes (start.Code code) = ((b == at_sign) ≡ true) × (code ≡ code_at bytes)
Says b bytes (start.Sign sign) = longest all_signs (b ∷ bytes) ≡ Some sign
Says b bytes s = Unit {0}

sign-says : (b : ℕ) (bytes : List ℕ) (o : Option Sign) → longest all_signs (b ∷ bytes) ≡ o
    → Says b bytes (option_map_or start.Sign o start.OtherByte)
sign-says b bytes o e = grind arith

start-says : (b : ℕ) (bytes : List ℕ) → Says b bytes (start_of false b bytes)
start-says b bytes = if-both (Says b bytes) (nat_lt 0 (prefix_size (b ∷ bytes))) _ _ (λ h. prefix-opens b bytes h)
    (λ n. if-both (Says b bytes) (is_letter b) _ _ (λ h. h) (λ letter. if-both (Says b bytes)
    (nat_lt 0 (constant (b ∷ bytes))) _ _ (λ h. (letter, h)) (λ n. if-both (Says b bytes) (is_mark b) _ _
    (λ h. record { prefix = Bare; rest = bytes; mark_is = h; same = refl }) (λ n. if-both (Says b bytes)
    (b == slash && begins star bytes) _ _ (λ h. tt) (λ n. if-both (Says b bytes) (b == slash && begins slash bytes) _ _
    (λ h. tt) (λ n. if-both (Says b bytes) (b == at_sign) _ _ (λ h. (h, refl)) (λ n. if-both (Says b bytes)
    (b == 124 && (false && not-bar)) _ _ (λ h. tt) (λ n. sign-says b bytes (longest all_signs (b ∷ bytes)) refl))))))))
  where
    not-bar : Bool
    not-bar = not (begins 124 bytes)

hash-none : (h : Bool) → (not h) ≡ true → h ≡ false
hash-none h e = grind arith

tells-start : (first : Bool) (s : Start) (place b : ℕ) (bytes : List ℕ) → Says b bytes s
    → Tells first (in_code s (in_part first) place (b ∷ bytes))
tells-start true start.Identifier place b bytes says = tells-one true false (in_part false) place (b ∷ bytes)
    (identifier (b ∷ bytes)) refl refl refl (λ simple quiet. identifier-alone b bytes says)
tells-start false start.Identifier place b bytes says = tells-one false false (in_part false) place (b ∷ bytes)
    (identifier (b ∷ bytes)) refl refl refl (λ simple quiet. identifier-alone b bytes says)
tells-start first start.Constant place b bytes says = tells-one first (in_hash_line (in_part first).part) (moved
    (in_part first) (passed (in_part first).part)) place (b ∷ bytes) (plain kinds.Constant (constant (b ∷ bytes)))
    (passed-on first) (no-line first) refl (λ simple quiet. constant-alone b bytes says.0 says.1)
tells-start first (start.Quoted mark) place b bytes says = tells-one first (in_hash_line (in_part first).part)
    (moved (in_part first) (passed (in_part first).part)) place (b ∷ bytes)
    (string kinds.Quoted (prefix_size (b ∷ bytes) + 1) mark place (b ∷ bytes)) (passed-on first) (no-line first) refl
    (λ simple quiet. string-alone mark (b ∷ bytes) place says quiet)
tells-start first (start.Code code) place b bytes says = tells-code first code place b bytes says.0 says.1
tells-start first (start.Sign sign) place b bytes says = tells-one first (in_hash_line (in_part first).part)
    (moved (in_part first) (passed (in_part first).part)) place (b ∷ bytes)
    (plain (kinds.Sign sign) (length (spelling sign))) (passed-on first) (no-line first) refl
    (λ simple quiet. sign-alone all_signs (b ∷ bytes) sign says (hash-none (is_hash sign) simple))
tells-start first start.OtherByte place b bytes says = other (refl, refl)
tells-start _ _ _ _ _ _ = other tt

-- ## Any place

section-other : (bytes : List ℕ)
    → (is_simple (section_code bytes).kind ≡ false) × (is_program (section_code bytes).kind ≡ false)
section-other bytes = grind (arith, if-both, is_simple, is_program)

tells-section : (first : Bool) (place : ℕ) (bytes : List ℕ) → Tells first (section (in_part first) place bytes)
tells-section first place bytes = grind (arith, section-other)

tells-text : (first fresh : Bool) (last place b : ℕ) (bytes : List ℕ)
    → Tells first (code_text_apart (in_part first) fresh last place b bytes)
tells-text true fresh last place b bytes = if-both (Tells true) (b == newline) _ _ (λ h. blank refl)
    (λ n. if-both (Tells true) (is_space (in_part true).part b bytes) _ _ (λ h. blank refl) (λ n. if-both (Tells true)
    (b == hash && fresh) _ _ (λ h. other (refl, refl)) (λ n. if-both (Tells true) (b == less && false) _ _
    (λ h. other (refl, refl)) (λ n. tells-start true (start_of false b bytes) place b bytes (start-says b bytes)))))
tells-text false fresh last place b bytes = if-both (Tells false) (b == newline) _ _ (λ h. blank refl) (λ n. if-both
    (Tells false) (is_space (in_part false).part b bytes) _ _ (λ h. blank refl) (λ n. if-both (Tells false)
    (b == hash && fresh) _ _ (λ h. other (refl, refl)) (λ n. if-both (Tells false) (b == less && false) _ _
    (λ h. other (refl, refl)) (λ n. tells-start false (start_of false b bytes) place b bytes (start-says b bytes)))))

tells-found : (first fresh : Bool) (last place b : ℕ) (bytes : List ℕ)
    → Tells first (found_apart (in_part first) fresh last place b bytes)
tells-found true fresh last place b bytes = if-both (Tells true) (b == at_sign && begins_section bytes) _ _
    (λ h. tells-section true place bytes) (λ h. tells-text true fresh last place b bytes)
tells-found false fresh last place b bytes = if-both (Tells false) (b == at_sign && begins_section bytes) _ _
    (λ h. tells-section false place bytes) (λ h. tells-text false fresh last place b bytes)

-- ## All tokens of a part

abbrev pub AreAlone : List Answer → Type 0
AreAlone [] = Unit {0}
AreAlone (Token t ∷ answers) = IsAloneText t.kind t.text × IsOutside t × AreAlone answers
AreAlone (answer ∷ answers) = ⊥

no-notes : (xs ys : List Answer) → AreNotes xs → AreSimpleTokens (xs ++ ys) → xs ≡ []
no-notes [] ys notes are = refl
no-notes (Token t ∷ xs) ys notes are = absurd notes
no-notes (Begin t ∷ xs) ys notes are = absurd notes
no-notes (Finish t ∷ xs) ys notes are = absurd notes
no-notes (Note kind place ∷ xs) ys notes are = absurd are

other-none : (xs ys : List Answer) → IsOther xs → AreSimpleTokens (xs ++ ys) → ⊥
other-none xs ys is are = grind arith

other-first : (xs ys rest : List Answer) → IsOther xs → BeginsBefore rest (xs ++ ys) → ⊥
other-first xs ys rest is begun = grind arith

alone-on : (bytes : List ℕ) (fresh : Bool) (last place taken : ℕ) → AreSimpleTokens (answers bytes (in_part false) fresh
    last place taken) → AreAlone (answers bytes (in_part false) fresh last place taken)
alone-on [] fresh last place taken are = tt
alone-on (b ∷ bytes) fresh last place (suc taken) are = alone-on bytes (still_fresh fresh b) b (place + 1) taken are
alone-on (b ∷ bytes) fresh last place zero are = by (found_apart (in_part false) fresh last place b bytes) (tells-found
    false fresh last place b bytes) are (λ more are. alone-on bytes (still_fresh fresh b) b (place + 1) more are)
  where
    on : Where → ℕ → List Answer
    on next more = answers bytes next (still_fresh fresh b) b (place + 1) more

    by : (f : ScanStep) → Tells false f → AreSimpleTokens (joined f on) → ((more : ℕ) → AreSimpleTokens
        (on (in_part false) more) → AreAlone (on (in_part false) more)) → AreAlone (joined f on)
    by f (blank e) are later = subst (λ g. AreAlone (joined g on)) (sym e)
        (later 0 (subst (λ g. AreSimpleTokens (joined g on)) e are))
    by f (token t notes e n next line alone) are later =
        let ys = on (in_part false) f.more in
        let q : joined f on ≡ Token t ∷ (notes ++ ys) = λ i. e i ++ on (next i) f.more in
        let simple : AreSimpleTokens (Token t ∷ (notes ++ ys)) = subst AreSimpleTokens q are in
        let none = no-notes notes ys n simple.1 in
        let rest : AreSimpleTokens ys = subst (λ l. AreSimpleTokens (l ++ ys)) none simple.1 in
        subst AreAlone (sym (q ∙ ap (λ l. Token t ∷ (l ++ ys)) none)) (alone simple.0 none, line, later f.more rest)
    by f (other is) are later = absurd (other-none f.answers (on f.next f.more) is are)

alone-behind : (bytes : List ℕ) (fresh : Bool) (last place : ℕ) (rest : List Answer)
    → BeginsBefore rest (answers bytes (in_part true) fresh last place 0) → AreSimpleTokens rest → AreAlone rest
alone-behind [] fresh last place rest begun are = absurd begun
alone-behind (b ∷ bytes) fresh last place rest begun are =
    by (found_apart (in_part true) fresh last place b bytes) (tells-found true fresh last place b bytes) begun
    (λ begun. alone-behind bytes (still_fresh fresh b) b (place + 1) rest begun are)
  where
    on : Where → ℕ → List Answer
    on next more = answers bytes next (still_fresh fresh b) b (place + 1) more

    by : (f : ScanStep) → Tells true f → BeginsBefore rest (joined f on)
        → (BeginsBefore rest (on (in_part true) 0) → AreAlone rest) → AreAlone rest
    by f (blank e) begun later = later (subst (λ g. BeginsBefore rest (joined g on)) e begun)
    by f (token t notes e n next line alone) begun later =
        let ys = on (in_part false) f.more in
        let q : joined f on ≡ Token t ∷ (notes ++ ys) = λ i. e i ++ on (next i) f.more in
        let before : BeginsBefore rest (Token t ∷ (notes ++ ys)) = subst (BeginsBefore rest) q begun in
        let simple : AreSimpleTokens (notes ++ ys) = subst AreSimpleTokens (sym before.1) are in
        let none = no-notes notes ys n simple in
        let left : AreSimpleTokens ys = subst (λ l. AreSimpleTokens (l ++ ys)) none simple in
        subst AreAlone (ap (λ l. l ++ ys) (sym none) ∙ before.1)
        (alone-on bytes (still_fresh fresh b) b (place + 1) f.more left)
    by f (other is) begun later = absurd (other-first f.answers (on f.next f.more) rest is begun)

-- The tokens of a part behind its code, where they are simple, are tokens by themselves.
pub part-alone : (text : List ℕ) (from end : ℕ) (rest : List Answer)
    → BeginsBefore rest (tokens_of text from end CPart) → AreSimpleTokens rest → AreAlone rest
part-alone text from end rest begun are = grind (arith, alone-behind)
