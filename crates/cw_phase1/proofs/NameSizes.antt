-- No kept name is longer than the text of the web.
use Rattle.cw_phase1.proofs.Terms.{ℕ, zero, suc, ◌+◌, ◌≤◌, Bool, List, [], ◌∷◌, ◌++◌, All, drop, length, length-drop}
use Rattle.cw_phase1.proofs.Terms.{arith, if◌then◌else◌, length-take, All-nil, TokKind, Answer, Token, Begin, Finish}
use Rattle.cw_phase1.proofs.Terms.{Note, is_void, uncoded, Covers, SecKind, SecName, unreferred, with_text, grown}
use Rattle.cw_phase1.proofs.Terms.{Reference, referred, single_blanks, without_first_blank, Naming, Void, Full, Prefix}
use Rattle.cw_phase1.proofs.Terms.{naming_by, naming, name_text, entering, kept_by, kept_behind, kept_after}
use Rattle.cw_phase1.proofs.Underway.{covers-end, text-length}

-- ## The text of a token

single-size : (bytes : List ℕ) → length (single_blanks bytes) ≤ length bytes
single-size [] = omega arith
single-size (byte ∷ bytes) = grind (arith, single-size bytes)

first-size : (bytes : List ℕ) → length (without_first_blank bytes) ≤ length bytes
first-size bytes = grind (arith)

uncoded-size : (bytes : List ℕ) → length (uncoded bytes) ≤ length bytes
uncoded-size [] = omega arith
uncoded-size (byte ∷ []) = grind arith
uncoded-size (byte ∷ next ∷ bytes) = grind (arith, uncoded-size bytes, uncoded-size (next ∷ bytes))

name-size : (token : List ℕ) → length (name_text token) ≤ length token
name-size token = grind (arith, first-size, single-size, uncoded-size, length-drop)

-- ## Names that are entered

abbrev IsShort : ℕ → Naming → Type 0
IsShort n Void = Unit {0}
IsShort n (Full kind text) = length text ≤ n
IsShort n (Prefix text) = length text ≤ n

short-by : (t : Bool) (n : ℕ) (x y : Naming) → IsShort n x → IsShort n y → IsShort n (if t then x else y)
short-by t n x y h k = grind arith

short-naming : (n : ℕ) (void : Bool) (kind : TokKind) (text : List ℕ) → length text ≤ n
    → IsShort n (naming_by void kind text)
short-naming n void kind text h = grind (arith, short-by, length-take)

abbrev AreShort : ℕ → List SecName → Type 0
AreShort n [] = Unit {0}
AreShort n (name ∷ names) = (length name.text ≤ n) × AreShort n names

short-last : (n : ℕ) (names : List SecName) (kind : SecKind) (text : List ℕ) (complete : Bool) → length text ≤ n
    → AreShort n names → AreShort n (names ++ unreferred kind text complete ∷ [])
short-last n [] kind text complete t h = (t, tt)
short-last n (name ∷ names) kind text complete t h = (h.0, short-last n names kind text complete t h.1)

short-text : (n i : ℕ) (text : List ℕ) (complete : Bool) (names : List SecName) → length text ≤ n → AreShort n names
    → AreShort n (with_text i text complete names)
short-text n i text complete [] t h = h
short-text n zero text complete (name ∷ names) t h = (t, h.1)
short-text n (suc i) text complete (name ∷ names) t h = (h.0, short-text n i text complete names t h.1)

short-grown : (n : ℕ) (prefix : List ℕ) (i : ℕ) (names : List SecName) → length prefix ≤ n → AreShort n names
    → AreShort n (grown prefix i names)
short-grown n prefix i [] t h = h
short-grown n prefix zero (name ∷ names) t h = grind arith
short-grown n prefix (suc i) (name ∷ names) t h = (h.0, short-grown n prefix i names t h.1)

short-entering : (n : ℕ) (m : Naming) (names : List SecName) → IsShort n m → AreShort n names
    → AreShort n (kept_by (entering m names) names)
short-entering n m names t h = grind (arith, short-text, short-last, short-last, short-grown)

short-kept : (text : List ℕ) (from : ℕ) (names : List SecName) (answers : List Answer) → Covers text from (length text)
    answers → AreShort (length text) names → AreShort (length text) (kept_after names answers)
short-kept text from names [] c h = h
short-kept text from names (Token t ∷ answers) c h =
    let end : t.span.«end» ≤ length text = covers-end text t.span.«end» (length text) answers c.2 in
    let within : length t.text ≤ length text = grind (arith, text-length) in
    short-kept text t.span.«end»
    (kept_behind t names) answers c.2 (short-entering (length text) (naming t.kind t.text) names (short-naming
    (length text) (is_void (drop 2 t.text)) t.kind (name_text t.text) (omega (arith, name-size t.text))) h)
short-kept text from names (Begin t ∷ answers) c h = short-kept text t.span.«end» names answers c.1 h
short-kept text from names (Finish t ∷ answers) c h = short-kept text t.span.«end» names answers c.1 h
short-kept text from names (Note kind place ∷ answers) c h = short-kept text from names answers c h

short-referred : (n k : ℕ) (references : List Reference) (names : List SecName) → AreShort n names
    → All (λ (name : SecName). length name.text ≤ n) (referred references k names)
short-referred n k references [] h = All-nil (λ (name : SecName). length name.text ≤ n)
short-referred n k references (name ∷ names) h = grind (arith, short-referred n (k + 1) references names h.1)

pub all-short : (text : List ℕ) (answers : List Answer) (references : List Reference) → Covers text 0 (length text)
    answers → All (λ (name : SecName). length name.text ≤ length text) (referred references 0 (kept_after [] answers))
all-short text answers references c = grind (arith, short-referred, short-kept)
