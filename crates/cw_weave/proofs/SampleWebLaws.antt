-- The lines of the sample have no byte 10, and its text is short.
use Rattle.std.proofs.Common.{◌≡◌, ◌≢◌, ℕ, zero, suc, ◌+◌, ◌-◌, ◌*◌, ◌<◌, ◌≤◌, ◌==◌, Bool, true, false, not, List}
use Rattle.std.proofs.Common.{[], ◌∷◌, ◌++◌, codes, length, refl, sym, ap, ◌∙◌, subst, append_assoc, arith}
use Rattle.std.proofs.Common.{length-append}
use Rattle.std.specs.Prelude.{All, decimal}
use Rattle.std.specs.List.{list_all}
use Rattle.std.proofs.lemmas.Fmt.{decimal-digits_of, length-decimal-le}
use Rattle.std.proofs.lemmas.List.Elements.{All-append, All-cons, All-map, All-nil}
use Rattle.cw_base.specs.Web.{MergedLine, WebState, text_of}
use Rattle.cw_base.specs.laws.WebLaws.{length-text_of-more, text_of-append}
use Rattle.cw_base.specs.declared.notes.Place.{Place}
use Rattle.cw_base.proofs.TestLaws.{both-left, both-right}
use Rattle.cw_weave.specs.SampleWeb.{first_text, head_line, line_of, section_lines, sample_lines, sample_web}
use Rattle.cw_weave.specs.SampleWeb.{statement_text}

-- ## No byte 10

abbrev pub NotTen : ℕ → Type 0
NotTen byte = byte ≢ 10

abbrev other : ℕ → Bool
other byte = not (byte == 10)

never : false ≡ true → ⊥
never e = cc

other-not_ten : (byte : ℕ) → other byte ≡ true → NotTen byte
other-not_ten byte is = λ e. never (subst (λ (b : ℕ). other b ≡ true) e is)

-- a text that is known
whole : (text : List ℕ) → list_all other text ≡ true → All NotTen text
whole [] is = All-nil NotTen
whole (byte ∷ bytes) is =
    All-cons NotTen byte bytes (other-not_ten byte (both-left (other byte) (list_all other bytes) is))
    (whole bytes (both-right (other byte) (list_all other bytes) is))

digit : (d : ℕ) → NotTen (48 + d)
digit d e = omega (arith, e)

number-whole : (k : ℕ) → 0 < k → k < 10000 → All NotTen (decimal k)
number-whole k some few =
    subst (All NotTen) (sym (decimal-digits_of k some (omega arith)))
    (All-map NotTen (λ d. 48 + d) _ (λ i d inside. digit _))

-- a number between two texts that are known
between-whole : (before behind : List ℕ) (k : ℕ) → 0 < k → k < 10000 → list_all other before ≡ true → All NotTen behind
    → All NotTen (before ++ (decimal k ++ behind))
between-whole before behind k some few known rest =
    All-append NotTen before (decimal k ++ behind) (whole before known)
    (All-append NotTen (decimal k) behind (number-whole k some few) rest)

pub first-whole : (k : ℕ) → 0 < k → k < 10000 → All NotTen (first_text k)
first-whole k some few = between-whole (codes "@ Section ") (codes " adds.") k some few refl
    (whole (codes " adds.") refl)

pub head-whole : (k : ℕ) → 0 < k → k < 10000 → All NotTen (head_line k)
head-whole k some few = between-whole (codes "@<Step ") (codes ".@>=") k some few refl (whole (codes ".@>=") refl)

-- a text, a number behind it, and a text that is known
behind-whole : (text known : List ℕ) (k : ℕ) → 0 < k → k < 10000 → All NotTen text → list_all other known ≡ true
    → All NotTen (text ++ decimal k ++ known)
behind-whole text known k some few rest is =
    All-append NotTen (text ++ decimal k) known (All-append NotTen text (decimal k) rest (number-whole k some few))
    (whole known is)

pub statement-whole : (k : ℕ) → 0 < k → k < 10000 → All NotTen (statement_text k)
statement-whole k some few =
    behind-whole (codes "if (a>" ++ decimal k ++ codes ") { b+=" ++ decimal k ++ codes "; c(")
    (codes ",a); } else while (b) b--;") k some few
    (behind-whole (codes "if (a>" ++ decimal k ++ codes ") { b+=") (codes "; c(") k some few
    (behind-whole (codes "if (a>") (codes ") { b+=") k some few (whole (codes "if (a>") refl) refl) refl) refl

-- ## Lengths

between-short : (before behind : List ℕ) (k room more : ℕ) → 0 < k → k < 10000 → length before ≤ room
    → length behind ≤ more
    → length (before ++ (decimal k ++ behind)) ≤ room + 4 + more
between-short before behind k room more some few first rest =
    let digits : length (decimal k) ≤ 4 = length-decimal-le 4 k (omega arith) few (omega arith) in
    omega (arith, digits, length-append before (decimal k ++ behind), length-append (decimal k) behind, first, rest)

pub first-short : (k : ℕ) → 0 < k → k < 10000 → length (first_text k) ≤ 20
first-short k some few = between-short (codes "@ Section ") (codes " adds.") k 10 6 some few (omega arith) (omega arith)

pub head-short : (k : ℕ) → 0 < k → k < 10000 → length (head_line k) ≤ 15
head-short k some few = between-short (codes "@<Step ") (codes ".@>=") k 7 4 some few (omega arith) (omega arith)

behind-short : (text known : List ℕ) (k room : ℕ) → 0 < k → k < 10000 → length text ≤ room
    → length (text ++ decimal k ++ known) ≤ room + 4 + length known
behind-short text known k room some few first =
    let digits : length (decimal k) ≤ 4 = length-decimal-le 4 k (omega arith) few (omega arith) in
    omega (arith, digits, length-append (text ++ decimal k) known, length-append text (decimal k), first)

pub statement-short : (k : ℕ) → 0 < k → k < 10000 → length (statement_text k) ≤ 55
statement-short k some few =
    behind-short (codes "if (a>" ++ decimal k ++ codes ") { b+=" ++ decimal k ++ codes "; c(")
    (codes ",a); } else while (b) b--;") k 25 some few
    (behind-short (codes "if (a>" ++ decimal k ++ codes ") { b+=") (codes "; c(") k 17 some few
    (behind-short (codes "if (a>") (codes ") { b+=") k 6 some few (omega arith)))

section-short : (k : ℕ) → 0 < k → k < 10000 → length (text_of (section_lines k)) ≤ 100
section-short k some few =
    omega (
      arith,
      first-short k some few,
      head-short k some few,
      statement-short k some few,
      length-append (first_text k) (10 ∷ (head_line k ++ 10 ∷ (statement_text k ++ 10 ∷ []))),
      length-append (head_line k) (10 ∷ (statement_text k ++ 10 ∷ [])),
      length-append (statement_text k) (10 ∷ []),
    )

pub sample-short : (n : ℕ) → n < 10000 → length (text_of (sample_lines n)) ≤ 100 * n
sample-short zero few = omega arith
sample-short (suc n) few =
    let earlier : length (text_of (sample_lines n)) ≤ 100 * n = sample-short n (omega arith) in
    omega (
      arith,
      earlier,
      section-short (suc n) (omega arith) few,
      ap length (text_of-append (sample_lines n) (section_lines (suc n))),
      length-append (text_of (sample_lines n)) (text_of (section_lines (suc n))),
    )

-- ## The web

pub web-short : (n : ℕ) {w : WebState} → n < 2000 → w ≡ sample_web n → length (text_of w.lines) ≤ 200000
web-short n few is = omega (arith, sample-short n (omega arith), ap (λ (w : WebState). length (text_of w.lines)) is)

-- with one line more
pub web-longer : (w : WebState) (line : MergedLine) {more : WebState} → more ≡ record w { lines = w.lines ++ line ∷ [] }
    → length (text_of more.lines) ≡ length (text_of w.lines) + length line.text + 1
web-longer w line is = ap (λ (w : WebState). length (text_of w.lines)) is ∙ length-text_of-more w.lines line

with_line : MergedLine → WebState → WebState
with_line line w = record w { lines = w.lines ++ line ∷ [] }

with_lines-sample : (n m : ℕ) → m ≡ suc n → with_line (line_of (3 * n + 3) (statement_text m))
    (with_line (line_of (3 * n + 2) (head_line m))
    (with_line (line_of (3 * n + 1) (first_text m)) (sample_web n))) ≡ sample_web m
unfolding with_line
with_lines-sample n m is =
    let a = line_of (3 * n + 1) (first_text m) in
    let b = line_of (3 * n + 2) (head_line m) in
    let c = line_of (3 * n + 3) (statement_text m) in
    let first : 3 * n + 1 ≡ 3 * suc n - 2 = omega arith in
    let second : 3 * n + 2 ≡ 3 * suc n - 1 = omega arith in
    let third : 3 * n + 3 ≡ 3 * suc n = omega arith in
    ap (λ (lines : List MergedLine). record { lines = lines; files = codes "sample" ∷ []; notes = [] })
    (append_assoc (sample_lines n ++ a ∷ []) (b ∷ []) (c ∷ []) ∙ append_assoc (sample_lines n) (a ∷ []) (b ∷ c ∷ [])
    ∙ (λ i. sample_lines n ++ line_of (first i) (first_text (is i)) ∷ line_of (second i) (head_line (is i))
    ∷ line_of (third i) (statement_text (is i)) ∷ []))
    ∙ ap sample_web (sym is)

-- The section behind so many others is there when its lines are.
pub section-added : (n : ℕ) {w0 w1 w2 w3 : WebState} {a b c : List ℕ} {p q r : Place} → w0 ≡ sample_web n
    → w1 ≡ record w0 { lines = w0.lines ++ record { text = a; place = p; changed = false } ∷ [] }
    → w2 ≡ record w1 { lines = w1.lines ++ record { text = b; place = q; changed = false } ∷ [] }
    → w3 ≡ record w2 { lines = w2.lines ++ record { text = c; place = r; changed = false } ∷ [] }
    → a ≡ first_text (n + 1) → b ≡ head_line (n + 1) → c ≡ statement_text (n + 1)
    → p ≡ record { file = 0; line = 3 * n + 1 } → q ≡ record { file = 0; line = 3 * n + 2 }
    → r ≡ record { file = 0; line = 3 * n + 3 }
    → w3 ≡ sample_web (n + 1)
unfolding with_line
section-added n begun one two three first head statement p q r =
    three ∙ (λ i. with_line (record { text = statement i; place = r i; changed = false }) (two i))
    ∙ (λ i. with_line (line_of (3 * n + 3) (statement_text (n + 1)))
    (with_line (record { text = head i; place = q i; changed = false }) (one i)))
    ∙ (λ i. with_line (line_of (3 * n + 3) (statement_text (n + 1)))
    (with_line (line_of (3 * n + 2) (head_line (n + 1)))
    (with_line (record { text = first i; place = p i; changed = false }) (begun i))))
    ∙ with_lines-sample n (n + 1) (omega arith)
