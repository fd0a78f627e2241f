-- The notes of single tokens are about bytes of these tokens.
use Rattle.std.proofs.Common.{ℕ, ◌+◌, ◌<◌, ◌≤◌, Bool, List, [], ◌∷◌, ◌++◌, Option, length, drop, take, not, arith}
use Rattle.std.proofs.Common.{length-drop, if◌then◌else◌}
use Rattle.std.proofs.{lemmas.Bool.Decides.nat_tests, lemmas.Grind.common_steps}
use Rattle.cw_base.specs.declared.notes.NoteKind.{NoteKind}
use Rattle.cw_rules.specs.declared.{bodies.Inside.Inside, bodies.NoteAt.NoteAt, codes.Code.Code, tokens.TokKind.TokKind}
use Rattle.cw_rules.specs.{Answers.Cut, Answers.note_answers, Bytes.apostrophe, Names.is_void}
use Rattle.cw_rules.specs.Bodies.{at_start, goes_on, note_here, stepped, with_note, noted, extent, note_unless}
use Rattle.cw_rules.specs.Bodies.{one_note, and_last, all_notes}
use Rattle.cw_rules.specs.Tokens.{string, include_name, control_text, section_name, is_name, is_quote, control_or_plain}
use Rattle.cw_rules.specs.Tokens.{code_token, dropped_code, section_code}
use Rattle.cw_rules.proofs.{Choices.if-both, Sizes.ended-most}
use Rattle.cw_laws.specs.NotePlaces.{NotesLie}
use Rattle.cw_base.specs.declared.notes.NoteKind.TheVariants as notes
use Rattle.cw_rules.specs.declared.bodies.Body.TheVariants as bodies
use Rattle.cw_rules.specs.declared.tokens.TokKind.TheVariants as kinds

-- Notes lie from one place up to another.
abbrev pub NotedIn : ℕ → ℕ → List NoteAt → Type 0
NotedIn low high [] = Unit {0}
NotedIn low high (n ∷ ns) = (low ≤ n.place) × (n.place < high) × NotedIn low high ns

pub answers-lie : (low high : ℕ) (ns : List NoteAt) → NotedIn low high ns → NotesLie low high (note_answers ns)
answers-lie low high [] h = tt
answers-lie low high (n ∷ ns) h = (h.0, h.1, answers-lie low high ns h.2)

append-in : (low high : ℕ) (xs ys : List NoteAt) → NotedIn low high xs → NotedIn low high ys
    → NotedIn low high (xs ++ ys)
append-in low high [] ys h g = g
append-in low high (n ∷ xs) ys h g = (h.0, h.1, append-in low high xs ys h.2 g)

wider-in : (low high last : ℕ) (ns : List NoteAt) → high ≤ last → NotedIn low high ns → NotedIn low last ns
wider-in low high last [] w h = tt
wider-in low high last (n ∷ ns) w h = (h.0, omega (arith, h.1, w), wider-in low high last ns w h.2)

pub one-in : (b : Bool) (kind : NoteKind) (low high place : ℕ) → low ≤ place → place < high
    → NotedIn low high (one_note (note_unless b kind place))
one-in b kind low high place l h = grind (arith, nat_tests)

last-in : (b : Bool) (kind : NoteKind) (low high place : ℕ) (ns : List NoteAt) → NotedIn low high ns → low ≤ place
    → place < high → NotedIn low high (and_last ns (note_unless b kind place))
last-in b kind low high place ns n l h = grind (arith, nat_tests, append-in)

with-in : (o : Option NoteKind) (low high place : ℕ) (ns : List NoteAt) → low ≤ place → place < high
    → NotedIn low high ns → NotedIn low high (with_note o place ns)
with-in o low high place ns l h n = grind (arith, nat_tests)

-- ## Bodies

pub noted-in : (low : ℕ) (i : Inside) (bytes : List ℕ) → low ≤ i.place
    → NotedIn low (i.place + length bytes) (noted i bytes)
noted-in low i [] l = tt
noted-in low i (b ∷ bs) l = by (goes_on i (b ∷ bs)) (wider-in low ((i.place + 1) + length bs) (i.place + length
    (b ∷ bs)) (noted (stepped i b bs) bs) (omega arith) (noted-in low (stepped i b bs) bs (omega (arith, l))))
  where
    by : (t : Bool) → NotedIn low (i.place + length (b ∷ bs)) (noted (stepped i b bs) bs) → NotedIn low
        (i.place + length (b ∷ bs)) (if t then with_note (note_here i b bs) i.place (noted (stepped i b bs) bs) else [])
    by t rest = grind (arith, nat_tests, with-in)

-- where a body stopped
stop-in : (low : ℕ) (i : Inside) (bytes : List ℕ) → low < i.place
    → (low ≤ (extent i bytes).stop) × ((extent i bytes).stop < i.place + length bytes)
stop-in low i bytes l = grind (arith, nat_tests, common_steps, ended-most i bytes, ended-most, length-drop)

all-in : (low : ℕ) (lost : NoteKind) (i : Inside) (bytes : List ℕ) → low < i.place
    → NotedIn low (i.place + length bytes) (all_notes lost i bytes)
all-in low lost i bytes l =
    let s = stop-in low i bytes l in
    last-in (extent i bytes).closed lost low (i.place + length bytes) (extent i bytes).stop (noted i bytes)
    (noted-in low i bytes (omega (arith, l))) s.0 s.1

-- ## Tokens

pub string-in : (low : ℕ) (kind : TokKind) (opening quote place : ℕ) (bytes : List ℕ) → low ≤ place → 0 < opening
    → opening ≤ length bytes → NotedIn low (place + length bytes) (string kind opening quote place bytes).notes
string-in low kind opening quote place bytes l some fits =
    let i = at_start (bodies.Quoted quote) (place + opening) in
    wider-in low (i.place + length (drop opening bytes)) (place + length bytes)
    (all_notes notes.StringUnended i (drop opening bytes)) (omega (arith, length-drop opening bytes, fits))
    (all-in low notes.StringUnended i (drop opening bytes) (omega (arith, l, some)))

pub include-in : (low place byte : ℕ) (bytes : List ℕ) → low ≤ place
    → NotedIn low (place + length (byte ∷ bytes)) (include_name place (byte ∷ bytes)).notes
include-in low place byte bytes l =
    let i = at_start bodies.IncludeName (place + 1) in
    wider-in low (i.place + length bytes) (place + length (byte ∷ bytes)) (noted i bytes) (omega arith)
    (noted-in low i bytes (omega (arith, l)))

control-in : (low : ℕ) (code : Code) (place byte next : ℕ) (bytes : List ℕ) → low ≤ place
    → NotedIn low (place + length (byte ∷ next ∷ bytes)) (control_text code place (byte ∷ next ∷ bytes)).notes
control-in low code place byte next bytes l =
    let i = at_start bodies.ControlText (place + 2) in
    wider-in low (i.place + length bytes) (place + length (byte ∷ next ∷ bytes)) (all_notes notes.ControlTextUnended i
    bytes) (omega arith) (all-in low notes.ControlTextUnended i bytes (omega (arith, l)))

name-in : (low : ℕ) (code : Code) (place byte next : ℕ) (bytes : List ℕ) → low ≤ place
    → NotedIn low (place + length (byte ∷ next ∷ bytes)) (section_name code place (byte ∷ next ∷ bytes)).notes
name-in low code place byte next bytes l =
    let i = at_start bodies.SectionName (place + 2) in
    let high = place + length (byte ∷ next ∷ bytes) in
    let unended = one_note (note_unless (extent i bytes).closed notes.NameUnended place) in
    let empty = one_note (note_unless (not (is_void (take (extent i bytes).inner_size bytes))) notes.NameEmpty place) in
    append-in low high unended (empty ++ noted i bytes) (one-in (extent i bytes).closed notes.NameUnended low high place
    l (omega arith)) (append-in low high empty (noted i bytes) (one-in (not
    (is_void (take (extent i bytes).inner_size bytes))) notes.NameEmpty low high place l (omega arith)) (wider-in low
    (i.place + length bytes) high (noted i bytes) (omega arith) (noted-in low i bytes (omega (arith, l)))))

control-or-plain-in : (low : ℕ) (code : Code) (place byte next : ℕ) (bytes : List ℕ) → low ≤ place
    → NotedIn low (place + length (byte ∷ next ∷ bytes)) (control_or_plain code place (byte ∷ next ∷ bytes)).notes
control-or-plain-in low code place byte next bytes l =
    grind (arith, nat_tests, control-in low code place byte next bytes l)

pub code-token-in : (low : ℕ) (code : Code) (place byte next : ℕ) (bytes : List ℕ) → low ≤ place
    → NotedIn low (place + length (byte ∷ next ∷ bytes)) (code_token code place (byte ∷ next ∷ bytes)).notes
code-token-in low code place byte next bytes l =
    let all = byte ∷ next ∷ bytes in
    let P : Cut → Type 0 = λ c. NotedIn low (place + length all) c.notes in
    if-both P (is_name code) (section_name code place all) _ (λ h. name-in low code place byte next bytes l)
    (λ h. if-both P (is_quote code) (string (kinds.Code code) 2 apostrophe place all) (control_or_plain code place all)
    (λ h. string-in low (kinds.Code code) 2 apostrophe place all l (omega arith) (omega arith))
    (λ h. control-or-plain-in low code place byte next bytes l))

pub dropped-in : (low : ℕ) (note : NoteKind) (code : Code) (place byte next : ℕ) (bytes : List ℕ) → low ≤ place
    → NotedIn low (place + length (byte ∷ next ∷ bytes)) (dropped_code note code place (byte ∷ next ∷ bytes)).notes
dropped-in low note code place byte next bytes l =
    (l, omega arith, control-or-plain-in low code place byte next bytes l)

pub section-in : (low high : ℕ) (bytes : List ℕ) → NotedIn low high (section_code bytes).notes
section-in low high bytes = grind (arith, nat_tests, if-both)
