-- A string that is cut without a note is closed by its last byte; and the longest sign that the bytes begin with is
-- spelled there.
use Rattle.cw_plain_laws.proofs.Terms.{◌≡◌, ℕ, zero, suc, ◌+◌, ◌-◌, ◌≤◌, Bool, true, false, ◌&&◌, ◌||◌, not, ◌==◌}
use Rattle.cw_plain_laws.proofs.Terms.{nat_lt, List, [], ◌∷◌, length, take, drop, refl, sym, ap, subst, ◌∙◌, arith}
use Rattle.cw_plain_laws.proofs.Terms.{Option, Some, None, if◌then◌else◌, eqb-true, both-left, both-right, is_hash}
use Rattle.cw_plain_laws.proofs.Terms.{if-both, all_notes, and_last, at_start, ended, extent, goes_on, is_single}
use Rattle.cw_plain_laws.proofs.Terms.{note_here, note_unless, noted, stepped, takes_next, with_note, begins_with}
use Rattle.cw_plain_laws.proofs.Terms.{longer, longest, spelling, Inside, NoteAt}
use Rattle.cw_base.specs.declared.notes.NoteKind.{NoteKind}
use Rattle.cw_plain_laws.proofs.{Again.IsAloneText, Again.IsClosed, Again.has_no_note, StringLaws.inside}
use Rattle.cw_rules.proofs.BodiesAhead.{ended-here, ended-on, noted-on}
use Rattle.cw_rules.proofs.Inside.{ended-le}
use Rattle.cw_rules.specs.declared.signs.Sign.{Sign}
use Rattle.cw_base.specs.declared.notes.NoteKind.TheVariants as notes
use Rattle.cw_rules.specs.declared.bodies.Body.TheVariants as bodies
use Rattle.cw_rules.specs.declared.signs.Sign.TheVariants as signs
use Rattle.cw_rules.specs.declared.tokens.TokKind.TheVariants as kinds

-- ## Strings

none-begins : (q k : ℕ) → begins_with (q ∷ []) (drop k []) ≡ false
none-begins q zero = refl
none-begins q (suc k) = refl

mark-there : (q b : ℕ) (bytes : List ℕ) → begins_with (q ∷ []) (b ∷ bytes) ≡ true → b ≡ q
mark-there q b bytes h = eqb-true b q (both-left (b == q) true h)

no-mark-none : (q k : ℕ) → begins_with (q ∷ []) (drop k []) ≡ true → ⊥
no-mark-none q k h = let e : true ≡ false = sym h ∙ none-begins q k in cc

no-note : (o : Option NoteKind) (place : ℕ) (more : List NoteAt) → with_note o place more ≡ [] → (o ≡ None) × (more
    ≡ [])
no-note None place more e = (refl, e)
no-note (Some kind) place more e = absurd cc

no-single : (q braces place last : ℕ) (along : Bool) (b c : ℕ) (bytes : List ℕ) → note_here (inside q braces place last
    along) b (c ∷ bytes) ≡ None → (more : List ℕ) → has_no_note along b (c ∷ more)
no-single q braces place last true b c bytes e more = tt
no-single q braces place last false b c bytes e more = by (is_single b (c ∷ bytes)) refl e
  where
    by : (t : Bool) → is_single b (c ∷ bytes) ≡ t → ◌≡◌ {A = Option NoteKind}
        (if t then Some notes.AtInString else None) None → is_single b (c ∷ bytes) ≡ false
    by true h e = absurd cc
    by false h e = h

stays-here : (along s : Bool) → (along || not s) ≡ false → along ≡ false
stays-here along s h = grind arith

pub taken-closed : (q braces place last : ℕ) (along : Bool) (bytes : List ℕ) (k : ℕ)
    → (ended (inside q braces place last along) bytes).place ≡ place + k → noted (inside q braces place last along)
    bytes ≡ [] → begins_with (q ∷ []) (drop k bytes) ≡ true → IsClosed q last along (take (suc k) bytes)
taken-closed q braces place last along [] k size quiet closing = absurd (no-mark-none q k closing)
taken-closed q braces place last along (b ∷ []) k size quiet closing =
    by (goes_on (inside q braces place last along) (b ∷ [])) k refl size closing
  where
    i : Inside
    i = inside q braces place last along

    by : (t : Bool) (k : ℕ) → goes_on i (b ∷ []) ≡ t → (ended i (b ∷ [])).place ≡ place + k
        → begins_with (q ∷ []) (drop k (b ∷ [])) ≡ true → IsClosed q last along (take (suc k) (b ∷ []))
    by true zero e size closing =
        let next : Inside = stepped i b [] in
        let same : (ended i (b ∷ [])).place ≡ (ended next []).place = ap (λ (j : Inside). j.place)
        (ended-on i b [] e) in
        absurd (let least : place + 1 ≤ (ended next []).place = ended-le next [] in omega arith)
    by true (suc k) e size closing = absurd (no-mark-none q k closing)
    by false zero e size closing = (stays-here along _ e, mark-there q b [] closing)
    by false (suc k) e size closing = absurd (no-mark-none q k closing)
taken-closed q braces place last along (b ∷ c ∷ bytes) k size quiet closing = by
    (goes_on (inside q braces place last along) (b ∷ c ∷ bytes)) k refl size closing
    (λ k size quiet closing. taken-closed q (stepped (inside q braces place last along) b (c ∷ bytes)).braces
    (place + 1) b (not along && takes_next (bodies.Quoted q) b (c ∷ bytes)) (c ∷ bytes) k size quiet closing)
  where
    i : Inside
    i = inside q braces place last along

    next : Inside
    next = stepped i b (c ∷ bytes)

    by : (t : Bool) (k : ℕ) → goes_on i (b ∷ c ∷ bytes) ≡ t → (ended i (b ∷ c ∷ bytes)).place ≡ place + k → begins_with
        (q ∷ []) (drop k (b ∷ c ∷ bytes)) ≡ true → ((k : ℕ) → (ended next (c ∷ bytes)).place ≡ (place + 1) + k → noted
        next (c ∷ bytes) ≡ [] → begins_with (q ∷ []) (drop k (c ∷ bytes)) ≡ true → IsClosed q b
        (not along && takes_next (bodies.Quoted q) b (c ∷ bytes)) (take (suc k) (c ∷ bytes))) → IsClosed q last along
        (take (suc k) (b ∷ c ∷ bytes))
    by true zero e size closing later =
        let same : (ended i (b ∷ c ∷ bytes)).place ≡ (ended next (c ∷ bytes)).place = ap (λ (j : Inside). j.place)
        (ended-on i b (c ∷ bytes) e) in
        absurd (let least : place + 1 ≤ (ended next (c ∷ bytes)).place = ended-le next (c ∷ bytes) in omega arith)
    by true (suc k) e size closing later =
        let same : (ended i (b ∷ c ∷ bytes)).place ≡ (ended next (c ∷ bytes)).place = ap (λ (j : Inside). j.place)
        (ended-on i b (c ∷ bytes) e) in
        let at : (ended next (c ∷ bytes)).place ≡ (place + 1) + k = omega arith in
        let n = no-note (note_here i b (c ∷ bytes)) place (noted next (c ∷ bytes))
        (sym (noted-on i b (c ∷ bytes) e) ∙ quiet) in
        (e, no-single q braces place last along b c bytes n.0 (take k bytes), later k at n.1 closing)
    by false zero e size closing later = (stays-here along _ e, mark-there q b (c ∷ bytes) closing)
    by false (suc k) e size closing later =
        let same : (ended i (b ∷ c ∷ bytes)).place ≡ place = ap (λ (j : Inside). j.place)
        (ended-here i b (c ∷ bytes) e) in
        absurd (omega arith)

no-last : (more : List NoteAt) (o : Option NoteAt) → and_last more o ≡ [] → (more ≡ []) × (o ≡ None)
no-last more None e = (e, refl)
no-last [] (Some n) e = absurd cc
no-last (m ∷ more) (Some n) e = absurd cc

was-closed : (closed : Bool) (note : NoteKind) (place : ℕ) → note_unless closed note place ≡ None → closed ≡ true
was-closed true note place e = refl
was-closed false note place e = absurd cc

-- A string without a note, as far as it goes, with the byte that closes it.
pub string-closed : (q place : ℕ) (bytes : List ℕ) → all_notes notes.StringUnended (at_start (bodies.Quoted q) place)
    bytes ≡ [] → IsClosed q 0 false (take (extent (at_start (bodies.Quoted q) place) bytes).size bytes)
string-closed q place bytes e =
    let i : Inside = at_start (bodies.Quoted q) place in
    let n = no-last (noted i bytes) (note_unless (extent i bytes).closed notes.StringUnended (extent i bytes).stop) e in
    let closed : begins_with (q ∷ []) (drop ((ended i bytes).place - place) bytes) ≡ true =
    was-closed (extent i bytes).closed notes.StringUnended (extent i bytes).stop n.1 in
    let k = (ended i bytes).place - place in
    let size : (extent i bytes).size ≡ suc k = ap (λ (t : Bool). if t then k + 1 else k) closed ∙ omega arith in
    let at : (ended i bytes).place ≡ place + k = omega (arith, ended-le i bytes) in
    subst (λ n. IsClosed q 0 false (take n bytes)) (sym size) (taken-closed q 0 place 0 false bytes k at n.0 closed)

-- ## Signs

abbrev BeginsBy : List ℕ → Option Sign → Type 0
BeginsBy bytes None = Unit {0}
BeginsBy bytes (Some sign) = begins_with (spelling sign) bytes ≡ true

longer-begins : (bytes : List ℕ) (sign : Sign) (o : Option Sign) → BeginsBy bytes o
    → BeginsBy bytes (longer (begins_with (spelling sign) bytes) sign o)
longer-begins bytes sign None is = if-both (BeginsBy bytes) (begins_with (spelling sign) bytes) (Some sign) None
    (λ h. h) (λ h. tt)
longer-begins bytes sign (Some other) is = if-both (BeginsBy bytes)
    (begins_with (spelling sign) bytes && nat_lt (length (spelling other)) (length (spelling sign))) (Some sign)
    (Some other) (λ h. both-left (begins_with (spelling sign) bytes) _ h) (λ h. is)

longest-begins : (signs : List Sign) (bytes : List ℕ) → BeginsBy bytes (longest signs bytes)
longest-begins [] bytes = tt
longest-begins (sign ∷ signs) bytes = longer-begins bytes sign (longest signs bytes) (longest-begins signs bytes)

begins-take : (ws bytes : List ℕ) → begins_with ws bytes ≡ true → take (length ws) bytes ≡ ws
begins-take [] bytes h = refl
begins-take (w ∷ ws) [] h = absurd cc
begins-take (w ∷ ws) (b ∷ bytes) h =
    let first : b ≡ w = eqb-true b w (both-left (b == w) (begins_with ws bytes) h) in
    let rest = begins-take ws bytes (both-right (b == w) (begins_with ws bytes) h) in
    λ i. first i ∷ rest i

spelling-alone : (s : Sign) → is_hash s ≡ false → IsAloneText (kinds.Sign s) (spelling s)
spelling-alone signs.Hash h = absurd cc
spelling-alone _ h = (refl, h)

pub sign-alone : (all : List Sign) (bytes : List ℕ) (s : Sign) → longest all bytes ≡ Some s → is_hash s ≡ false
    → IsAloneText (kinds.Sign s) (take (length (spelling s)) bytes)
sign-alone all bytes s e no-hash = grind (arith, begins-take, longest-begins, spelling-alone)
