-- Inks are printed one after another.
use Rattle.cw_texpart.proofs.Terms.{◌≡◌, ℕ, suc, ◌+◌, ◌-◌, ◌<◌, ◌≤◌, ◌≢◌, ◌==◌, ◌||◌, Bool, true, false, not, refl, sym}
use Rattle.cw_texpart.proofs.Terms.{ap, ◌∙◌, List, [], ◌∷◌, ◌++◌, append_assoc, length, take, drop, get_or, arith}
use Rattle.cw_texpart.proofs.Terms.{ne_eqb, length-drop, take-take, subst, Result, Ok, Err, IsErrAnd, min, nat_lt}
use Rattle.cw_texpart.proofs.Terms.{slice_range, append-nil, drop-drop, drop-take, drop_more, length-take}
use Rattle.cw_texpart.proofs.Terms.{take-append-drop, All-head, All-tail, DeskState, HasNoLineEnd, Line, LineState}
use Rattle.cw_texpart.proofs.Terms.{fill_by, fill_byte, HasPut, Puts, puts-bytes, puts-none, puts-stop, puts-then}
use Rattle.cw_texpart.proofs.Terms.{PutError, Seen, is_text_kind, TokKind, Ink, Print, LineEnd, bytes_of, copied}
use Rattle.cw_texpart.proofs.Terms.{end_if, ink_by, kind_inks, laid, prints, token_inks, token_inks_by, held}
use Rattle.cw_texpart.proofs.Terms.{held_behind, holds_bytes, inked}
use Rattle.cw_lines.specs.Line.{fill}

-- ## Bytes

pub inked-append : (holds : Bool) (xs ys : List Ink) → inked holds (xs ++ ys)
    ≡ inked holds xs ++ inked (held holds xs) ys
inked-append holds [] ys = refl
inked-append holds (Print byte ∷ xs) ys = ap (λ (bytes : List ℕ). byte ∷ bytes) (inked-append (not (byte == 10)) xs ys)
inked-append holds (LineEnd empty ∷ xs) ys = ap (λ (bytes : List ℕ). end_if (holds || empty) ++ bytes) (inked-append
    false xs ys) ∙ sym (append_assoc (end_if (holds || empty)) (inked false xs) (inked (held false xs) ys))

pub laid-append : (holds : Bool) (xs ys : List Ink) → laid holds (xs ++ ys) ≡ inked holds xs ++ laid (held holds xs) ys
laid-append holds [] ys = refl
laid-append holds (Print byte ∷ xs) ys = ap (λ (bytes : List ℕ). byte ∷ bytes) (laid-append (not (byte == 10)) xs ys)
laid-append holds (LineEnd empty ∷ xs) ys = ap (λ (bytes : List ℕ). end_if (holds || empty) ++ bytes)
    (laid-append false xs ys) ∙ sym (append_assoc (end_if (holds || empty)) (inked false xs) (laid (held false xs) ys))

pub laid-is : (holds : Bool) (xs : List Ink) → laid holds xs ≡ inked holds xs ++ end_if (held holds xs)
laid-is holds xs = ap (laid holds) (sym (append-nil xs)) ∙ laid-append holds xs []

-- ## Whether the line holds bytes

held-end : (holds empty : Bool) (bytes : List ℕ) → held_behind holds (end_if (holds || empty) ++ bytes)
    ≡ held_behind false bytes
held-end holds empty bytes = grind arith

held-inked : (holds : Bool) (xs : List Ink) → held_behind holds (inked holds xs) ≡ held holds xs
held-inked holds [] = refl
held-inked holds (Print byte ∷ xs) = held-inked (not (byte == 10)) xs
held-inked holds (LineEnd empty ∷ xs) = held-end holds empty (inked false xs) ∙ held-inked false xs

pub held_behind-append : (holds : Bool) (xs ys : List ℕ) → held_behind holds (xs ++ ys)
    ≡ held_behind (held_behind holds xs) ys
held_behind-append holds [] ys = refl
held_behind-append holds (byte ∷ xs) ys = held_behind-append (not (byte == 10)) xs ys

one-more : (bytes : List ℕ) (byte : ℕ) → not (length (bytes ++ byte ∷ []) == 0) ≡ true
one-more [] byte = refl
one-more (first ∷ bytes) byte = let n : ℕ = length (bytes ++ byte ∷ []) in ap not (ne_eqb (suc n) 0 (omega arith))

holds-by : (end room : Bool) (line : Line) (byte : ℕ) → (byte == 10) ≡ end
    → not (length (fill_by end room line byte).line.pending == 0) ≡ not (byte == 10)
holds-by true room line byte is = ap not (sym is)
holds-by false true line byte is = one-more line.pending byte ∙ ap not (sym is)
holds-by false false line byte is = one-more _ byte ∙ ap not (sym is)

holds-fill : (line : Line) (bytes : List ℕ)
    → not (length (fill line bytes).line.pending == 0) ≡ held_behind (not (length line.pending == 0)) bytes
unfolding fill
holds-fill line [] = refl
holds-fill line (byte ∷ bytes) = holds-fill (fill_byte line byte).line bytes ∙ ap
    (λ (holds : Bool). held_behind holds bytes) (holds-by (byte == 10) (nat_lt (length line.pending) 80) line byte refl)

pub holds-put : {T : Type 0} {bytes : List ℕ} {old new : LineState} {before now : DeskState} {value : T}
    → Puts {T = T} bytes old new before now (Ok value) → holds_bytes new ≡ held_behind (holds_bytes old) bytes
holds-put {bytes = bytes} {old = old} put = ap (λ (l : Line). not (length l.pending == 0)) put.line
    ∙ holds-fill old.line bytes

pub holds-inked : {T : Type 0} (xs : List Ink) {old new : LineState} {before now : DeskState} {value : T} → Puts {T = T}
    (inked (holds_bytes old) xs) old new before now (Ok value) → holds_bytes new ≡ held (holds_bytes old) xs
holds-inked xs {old = old} put = holds-put put ∙ held-inked (holds_bytes old) xs

-- ## Inks after inks

pub inks-then : {T U : Type 0} (xs ys : List Ink) {first second third : LineState} {a b c : DeskState} {value : T}
    {result : Result U PutError} → Puts {T = T} (inked (holds_bytes first) xs) first second a b (Ok value)
    → Puts (inked (holds_bytes second) ys) second third b c result
    → Puts (inked (holds_bytes first) (xs ++ ys)) first third a c result
inks-then xs ys {first = first} begun ended = puts-bytes (ap (λ (holds : Bool). inked (holds_bytes first) xs ++ inked
    holds ys) (holds-inked xs begun) ∙ sym (inked-append (holds_bytes first) xs ys)) (puts-then begun ended)

pub as-put : {T : Type 0} {bytes : List ℕ} {old new : LineState} {before now : DeskState} {value : T}
    → Puts {T = T} bytes old new before now (Ok value) → HasPut bytes old new before now
as-put {bytes = bytes} {new = new} {now = now} puts =
    puts-bytes (append-nil bytes) (puts-then puts (puts-none new now (tt {0})))

-- Inks were printed, and with those that are still to be printed they are all.
pub record Inking (rest all : List Ink) (old new : LineState) (before now : DeskState) : Type 0 where
  pub done : List Ink
  pub put : HasPut (inked (holds_bytes old) done) old new before now
  pub goes : done ++ rest ≡ all

pub inking-begun : (all : List Ink) (out : LineState) (told : DeskState) → Inking all all out out told told
inking-begun all out told = record { done = []; put = puts-none out told (tt {0}); goes = refl }

-- the same inks, still to be printed
pub inking-as : {rest rest' all : List Ink} {old new : LineState} {before now : DeskState} → rest ≡ rest'
    → Inking rest all old new before now → Inking rest' all old new before now
inking-as is i = rw (← is) i

pub inking-next : {T : Type 0} (xs : List Ink) {rest all : List Ink} {old mid new : LineState}
    {before between now : DeskState} {value : T} → Inking (xs ++ rest) all old mid before between
    → Puts {T = T} (inked (holds_bytes mid) xs) mid new between now (Ok value) → Inking rest all old new before now
inking-next xs {rest = rest} i put = record {
  done = i.done ++ xs;
  put = as-put (inks-then i.done xs i.put put);
  goes = append_assoc i.done xs rest ∙ i.goes;
}

-- A failure in some of them.
pub inking-stopped : {T U : Type 0} (xs rest : List Ink) {all : List Ink} {old mid new : LineState}
    {before between now : DeskState} {error : PutError} {result : Result U PutError} → Inking (xs
    ++ rest) all old mid before
    between → Puts {T = T} (inked (holds_bytes mid) xs) mid new between now (Err error)
    → IsErrAnd result (λ found. found ≡ error) → Puts (inked (holds_bytes old) all) old new before now result
inking-stopped xs rest {old = old} i put is =
    let holds : Bool = holds_bytes old in
    puts-bytes (sym (inked-append holds (i.done ++ xs) rest) ∙ ap (inked holds) (append_assoc i.done xs rest ∙ i.goes))
    (puts-stop (inked (held holds (i.done ++ xs)) rest) (inks-then i.done xs i.put put) is)

pub lays-stopped : {T U : Type 0} (xs rest : List Ink) {all : List Ink} {old mid new : LineState}
    {before between now : DeskState} {error : PutError} {result : Result U PutError} → Inking (xs
    ++ rest) all old mid before
    between → Puts {T = T} (inked (holds_bytes mid) xs) mid new between now (Err error)
    → IsErrAnd result (λ found. found ≡ error) → Puts (laid (holds_bytes old) all) old new before now result
lays-stopped xs rest {old = old} i put is =
    let holds : Bool = holds_bytes old in
    puts-bytes (sym (laid-append holds (i.done ++ xs) rest) ∙ ap (laid holds) (append_assoc i.done xs rest ∙ i.goes))
    (puts-stop (laid (held holds (i.done ++ xs)) rest) (inks-then i.done xs i.put put) is)

-- All are printed, and at their end the line is ended where it holds bytes.
pub inking-ended : {all : List Ink} {old new : LineState} {before now : DeskState}
    → Inking [] all old new before now → HasPut (inked (holds_bytes old) all) old new before now
inking-ended {old = old} i = puts-bytes (ap (inked (holds_bytes old)) (sym (append-nil i.done) ∙ i.goes)) i.put

pub lays-ended : {U : Type 0} {all : List Ink} {old mid new : LineState} {before between now : DeskState}
    {result : Result U PutError} → Inking [] all old mid before between → Puts (end_if (holds_bytes mid)) mid new
    between now result → Puts (laid (holds_bytes old) all) old new before now result
lays-ended {all = all} {old = old} i put =
    let holds : Bool = holds_bytes old in
    let done : HasPut (inked holds all) old _ _ _ = inking-ended i in
    puts-bytes (ap (λ (h : Bool). inked holds all ++ end_if h) (holds-inked all done) ∙ sym (laid-is holds all))
    (puts-then done put)

-- ## Bytes of a text

-- a span of the text goes on with its first byte
pub copy-next : (text : List ℕ) (at end : ℕ) → at < end → at < length text → copied text at (slice_range text at end)
    ≡ ink_by (get_or text at 0 == 10) text at (get_or text at 0) ∷ copied text (at + 1) (slice_range text (at + 1) end)
copy-next text at end some within =
    let size : end - at ≡ suc (end - (at + 1)) = omega arith in
    ap (copied text at) (ap (λ (n : ℕ). take n (drop at text)) size
    ∙ ap (take (suc (end - (at + 1)))) (drop_more text at 0 within))

nothing-in : (bytes : List ℕ) → length bytes ≡ 0 → bytes ≡ []
nothing-in [] is = refl
nothing-in (byte ∷ bytes) is = absurd (omega arith)

pub copy-none : (text : List ℕ) (at end : ℕ) → min end (length text) ≤ at → copied text at (slice_range text at end)
    ≡ []
copy-none text at end past = ap (copied text at)
    (nothing-in (slice_range text at end) (omega (arith, length-take (end - at) (drop at text), length-drop at text)))

-- a span of the text is two spans, one behind the other
slice-split : (text : List ℕ) (at stop end : ℕ) → at ≤ stop → stop ≤ end
    → slice_range text at end ≡ slice_range text at stop ++ slice_range text stop end
slice-split text at stop end from to =
    let all : List ℕ = slice_range text at end in
    let n : ℕ = stop - at in
    let m : ℕ = end - stop in
    sym (take-append-drop n all)
    ∙ ap (λ (first : List ℕ). first ++ drop n all) (take-take n (end - at) (drop at text) (omega arith)) ∙ ap
    (λ (rest : List ℕ). take n (drop at text) ++ rest) (ap (λ (k : ℕ). drop n (take k (drop at text))) (omega arith)
    ∙ drop-take n m (drop at text) ∙ ap (take m) (drop-drop n at text ∙ ap (λ (k : ℕ). drop k text) (omega arith)))

-- bytes without a line's end are printed as they stand
copied-run : (text : List ℕ) (at : ℕ) (bytes rest : List ℕ) → HasNoLineEnd bytes
    → copied text at (bytes ++ rest) ≡ prints bytes ++ copied text (at + length bytes) rest
copied-run text at [] rest none = let here : at ≡ at + 0 = omega arith in ap (λ (n : ℕ). copied text n rest) here
copied-run text at (byte ∷ bytes) rest none =
    let plain : (byte == 10) ≡ false = ne_eqb byte 10 (All-head (λ (b : ℕ). b ≢ 10) byte bytes none) in
    ap (λ (end : Bool). ink_by end text at byte ∷ copied text (at + 1) (bytes ++ rest)) plain
    ∙ ap (λ (more : List Ink). Print byte ∷ more) (copied-run text (at + 1) bytes rest
    (All-tail (λ (b : ℕ). b ≢ 10) byte bytes none) ∙ ap (λ (n : ℕ). prints bytes ++ copied text n rest) (omega arith))

pub copy-line : (text : List ℕ) (at stop end : ℕ) → at ≤ stop → stop ≤ end → stop ≤ length text
    → HasNoLineEnd (slice_range text at stop) → copied text at (slice_range text at end)
    ≡ prints (slice_range text at stop) ++ copied text stop (slice_range text stop end)
copy-line text at stop end from to within none =
    ap (copied text at) (slice-split text at stop end from to) ∙ copied-run text at (slice_range text at stop)
    (slice_range text stop end) none ∙ ap (λ (n : ℕ). prints (slice_range text at stop) ++ copied text n
    (slice_range text stop end)) (omega (arith, length-take (stop - at) (drop at text), length-drop at text))

-- what a longer span begins with, as a span
pub line-free : (text : List ℕ) (at size end : ℕ) → at + size ≤ end → HasNoLineEnd (take size (slice_range text at end))
    → HasNoLineEnd (slice_range text at (at + size))
line-free text at size end within none = subst HasNoLineEnd (sym (ap (λ (n : ℕ). take n (drop at text)) (omega arith)
    ∙ sym (take-take size (end - at) (drop at text) (omega arith)))) none

pub inked-prints : (holds : Bool) (bytes : List ℕ) → inked holds (prints bytes) ≡ bytes
inked-prints holds [] = refl
inked-prints holds (byte ∷ bytes) = ap (λ (rest : List ℕ). byte ∷ rest) (inked-prints (not (byte == 10)) bytes)

-- bytes that are printed as they stand
pub line-put : {T : Type 0} {bytes : List ℕ} {old new : LineState} {before now : DeskState} {result : Result T PutError}
    → Puts bytes old new before now result → Puts (inked (holds_bytes old) (prints bytes)) old new before now result
line-put {bytes = bytes} {old = old} put = puts-bytes (sym (inked-prints (holds_bytes old) bytes)) put

-- Bytes without a line's end are copied, and then the line's end behind them.
pub inking-line : {T : Type 0} (text : List ℕ) (at stop end : ℕ) {all : List Ink} {old mid new : LineState}
    {before between now : DeskState} {value : T} → at ≤ stop → stop ≤ end → stop ≤ length text
    → HasNoLineEnd (slice_range text at stop) → Inking (copied text at (slice_range text at end)) all old mid before
    between → Puts {T = T} (slice_range text at stop) mid new between now (Ok value)
    → Inking (copied text stop (slice_range text stop end)) all old new before now
inking-line text at stop end from to within none i put = inking-next (prints (slice_range text at stop))
    (inking-as (copy-line text at stop end from to within none) i) (line-put put)

-- what a token prints, by whether it is a piece of text
pub text-inked : (holds : Bool) (text : List ℕ) (kind : TokKind) (token : Seen) → is_text_kind kind ≡ true
    → inked holds (copied text token.span.start (bytes_of text token.span)) ≡ inked holds (token_inks text kind token)
text-inked holds text kind token is = rw is refl

pub code-inked : (holds : Bool) (text : List ℕ) (kind : TokKind) (token : Seen) (bytes : List ℕ)
    → is_text_kind kind ≡ false → prints bytes ≡ kind_inks kind → bytes ≡ inked holds (token_inks text kind token)
code-inked holds text kind token bytes is same = sym (inked-prints holds bytes) ∙ ap (inked holds) same
    ∙ ap (λ (t : Bool). inked holds (token_inks_by t text kind token)) (sym is)
