-- What a call that prints a piece of a book has done: refusals, marks, and one piece behind another.
use Rattle.cw_press.proofs.Terms.{◌≡◌, ℕ, ◌+◌, ◌≤◌, ◌==◌, Bool, refl, List, [], ◌++◌, append_assoc, length, arith}
use Rattle.cw_press.proofs.Terms.{Result, Ok, IfOk, IsErrAnd, append-nil, map-append, Flags, DeskState, LineState, Puts}
use Rattle.cw_press.proofs.Terms.{is_err, puts-none, puts-then, PutError, Counts, Done, done_behind, joined_done}
use Rattle.cw_press.proofs.Terms.{as_it_is, Setting, lasting, Press, Weaves, underlined}
use Rattle.std.proofs.lemmas.List.Sums.{sum_by-append}
use Rattle.cw_translator.specs.Counting.{limit_in, productions_in, scraps_in, text_limit, ticks_in}
use Rattle.cw_table.specs.{Normal.count, Productions.productions, Rewriting.State, WalkCounts.ticks}

-- ## One call

-- a call that is refused
pub weaves-refused : {s : Setting} {d : Done ℕ} {old new : Press} (error : PutError) {result : Result Counts PutError}
    → Puts d.out old.line new.line old.told new.told result → lasting new.book ≡ lasting old.book → new.steps ≤
    old.steps + limit_in s.flags d.ended → IsErrAnd result (λ found. found ≡ error) → Weaves s d old new result
weaves-refused error puts same bound is = grind (arith, is_err)

-- the same piece
pub weaves-as : {s : Setting} {d e : Done ℕ} {old new : Press} {result : Result Counts PutError} → d ≡ e
    → Weaves s d old new result → Weaves s e old new result
weaves-as is woven = rw (← is) woven

-- a piece behind bytes that were put
pub weaves-behind : {T : Type 0} {s : Setting} {front : List ℕ} {d : Done ℕ} {old new : Press} {line : LineState}
    {told : DeskState} {value : T} {result : Result Counts PutError} → Puts {T = T} front old.line line old.told told
    (Ok value) → Weaves s d (record { book = old.book; line = line; told = told; steps = old.steps }) new result
    → Weaves s (done_behind front d) old new result
weaves-behind put woven = grind (arith, puts-then put woven.puts)

-- ## Marks

underlined-by : (none : Bool) (section : ℕ) (xs ys : List ℕ) → (section == 0) ≡ none
    → underlined section (xs ++ ys) ≡ underlined section xs ++ underlined section ys
underlined-by none section xs ys is = grind (arith, map-append, underlined)

pub underlined-append : (section : ℕ) (xs ys : List ℕ) → underlined section (xs ++ ys)
    ≡ underlined section xs ++ underlined section ys
underlined-append section xs ys = underlined-by (section == 0) section xs ys refl

none-by : (none : Bool) (section : ℕ) → (section == 0) ≡ none → underlined section [] ≡ []
none-by none section is = grind (arith, underlined)

pub underlined-none : (section : ℕ) → underlined section [] ≡ []
underlined-none section = none-by (section == 0) section refl

-- bytes that were put, of no C text
pub weaves-put : {s : Setting} (bytes : List ℕ) {old : Press} {line : LineState} {told : DeskState}
    (result : Result Counts PutError) → Puts bytes old.line line old.told told result
    → IfOk result (λ counts. counts.scraps ≡ 0) → IfOk result (λ counts. counts.productions ≡ 0) → Weaves s
    (as_it_is bytes old.book.names) old (record { book = old.book; line = line; told = told; steps = old.steps }) result
weaves-put {s = s} bytes {old = old} result puts scraps prods = grind (arith, append-nil, underlined-none)

-- nothing
pub nothing-woven : {s : Setting} {old : Press} {counts : Counts} → counts.scraps ≡ 0 → counts.productions ≡ 0
    → Weaves s (as_it_is [] old.book.names) old old (Ok counts)
nothing-woven {s = s} {old = old} {counts = counts} scraps prods =
    weaves-put [] (Ok counts) (puts-none old.line old.told counts) scraps prods

-- ## One behind another

pub joined-joined : {X : Type 0} (a b c : Done X) → joined_done (joined_done a b) c ≡ joined_done a (joined_done b c)
joined-joined a b c =
    rw (append_assoc a.out b.out c.out, append_assoc a.marks b.marks c.marks, append_assoc a.ended b.ended c.ended) refl

pub scraps-append : (xs ys : List State) → scraps_in (xs ++ ys) ≡ scraps_in xs + scraps_in ys
scraps-append xs ys = sum_by-append (λ state. length state.scraps) xs ys

pub productions-append : (flags : Flags) (xs ys : List State) → productions_in flags (xs ++ ys)
    ≡ productions_in flags xs + productions_in flags ys
productions-append flags xs ys = sum_by-append (λ state. count productions flags state) xs ys

pub ticks-append : (flags : Flags) (xs ys : List State) → ticks_in flags (xs ++ ys)
    ≡ ticks_in flags xs + ticks_in flags ys
ticks-append flags xs ys = sum_by-append (λ state. ticks productions flags state) xs ys

pub limit-append : (flags : Flags) (xs ys : List State) → limit_in flags (xs ++ ys)
    ≡ limit_in flags xs + limit_in flags ys
limit-append flags xs ys = sum_by-append (λ state. text_limit flags state) xs ys
