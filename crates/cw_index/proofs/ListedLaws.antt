-- A listed name: its text between what stands before and behind it.
use Rattle.cw_index.proofs.Terms.{◌≡◌, ℕ, refl, List, arith, Result, Ok, Err, IsErrAnd, DeskState, puts-stop, PutError}
use Rattle.cw_index.proofs.Terms.{Entry, AreSums, Weaving, bytes-refused, no_counts, nothing-more, weaves-bytes}
use Rattle.cw_index.proofs.Terms.{weaves-stopped, weaving-begun, weaving-last, weaving-last-stopped, weaving-next}
use Rattle.cw_index.proofs.Terms.{weaves-behind, weaves-refused, Counts, Done, done_behind, as_it_is, done_then}
use Rattle.cw_index.proofs.Terms.{Setting, Press, Weaves}
use Rattle.cw_lines.specs.{Line.LineState, Writes.Puts}

none-first : (counts : Counts) → AreSums counts no_counts counts
none-first counts = record { scraps = omega arith; productions = omega arith }

no-sums : AreSums no_counts no_counts no_counts
no-sums = record { scraps = refl; productions = refl }

-- a text is woven; bytes are still to be put behind it
behind-text : {s : Setting} (text : List Entry → Done ℕ) (back : List ℕ) {old mid : Press} {counts : Counts}
    → Weaves s (text old.book.names) old mid (Ok counts)
    → Weaving s (as_it_is back) (done_then (text old.book.names) (as_it_is back)) old mid counts
behind-text {s = s} text back {old = old} {counts = counts} woven =
    grind (arith, weaving-next, weaving-begun, no-sums, none-first)

-- The front is refused.
pub front-refused : {T : Type 0} {s : Setting} {front : List ℕ} (d : Done ℕ) {old : Press} {line : LineState}
    {told : DeskState} {error : PutError} {result : Result Counts PutError}
    → Puts {T = T} front old.line line old.told told (Err error) → IsErrAnd result (λ found. found ≡ error) → Weaves s
    (done_behind front d) old (record { book = old.book; line = line; told = told; steps = old.steps }) result
front-refused d {error = error} put is = weaves-refused error (puts-stop d.out put is) refl (omega arith) is

-- The text is refused.
pub text-refused : {T : Type 0} {s : Setting} {front : List ℕ} {d : Done ℕ} (back : List ℕ) {old new : Press}
    {line : LineState} {told : DeskState} {value : T} {error : PutError} {result : Result Counts PutError}
    → Puts {T = T} front old.line line old.told told (Ok value)
    → Weaves s d (record { book = old.book; line = line; told = told; steps = old.steps }) new (Err error) → IsErrAnd
    result (λ found. found ≡ error) → Weaves s (done_behind front (done_then d (as_it_is back))) old new result
text-refused {d = d} back put woven is = weaves-behind put (weaves-stopped (as_it_is back d.names) woven is)

-- What stands behind it is refused.
pub back-refused : {T U : Type 0} {s : Setting} {front : List ℕ} (text : List Entry → Done ℕ) (back : List ℕ)
    {old mid : Press} {line line' : LineState} {told told' : DeskState} {value : T} {counts : Counts} {error : PutError}
    {result : Result Counts PutError} → Puts {T = T} front old.line line old.told told (Ok value) → Weaves s
    (text old.book.names) (record { book = old.book; line = line; told = told; steps = old.steps }) mid (Ok counts)
    → Puts {T = U} back mid.line line' mid.told told' (Err error) → IsErrAnd result (λ found. found ≡ error)
    → Weaves s (done_behind front (done_then (text old.book.names) (as_it_is back))) old
    (record { book = mid.book; line = line'; told = told'; steps = mid.steps }) result
back-refused text back put woven ended is =
    weaves-behind put (weaving-last-stopped (behind-text text back woven) (bytes-refused ended refl) is)

-- All is put.
pub listed-woven : {T U : Type 0} {s : Setting} {front : List ℕ} (text : List Entry → Done ℕ) (back : List ℕ)
    {old mid : Press} {line line' : LineState} {told told' : DeskState} {value : T} {ended : U} {counts : Counts}
    → Puts {T = T} front old.line line old.told told (Ok value) → Weaves s (text old.book.names) (record
    { book = old.book; line = line; told = told; steps = old.steps }) mid (Ok counts) → Puts {T = U} back mid.line line'
    mid.told told' (Ok ended) → Weaves s (done_behind front (done_then (text old.book.names) (as_it_is back))) old
    (record { book = mid.book; line = line'; told = told'; steps = mid.steps }) (Ok counts)
listed-woven text back {counts = counts} put woven ended =
    weaves-behind put (weaving-last (behind-text text back woven) (weaves-bytes ended) (nothing-more counts))
