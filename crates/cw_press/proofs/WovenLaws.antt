-- Pieces of a book are woven one after another.
use Rattle.cw_press.proofs.Terms.{◌≡◌, ℕ, ◌+◌, ◌≤◌, refl, sym, ap, ◌∙◌, List, [], ◌++◌, append_assoc, arith, Result, Ok}
use Rattle.cw_press.proofs.Terms.{Err, IsErrAnd, append-nil, DeskState, LineState, Puts, puts-bytes, puts-none}
use Rattle.cw_press.proofs.Terms.{puts-stop, puts-then, puts-nothing, PutError, Memory, Entry, limit_in, Counts, Done}
use Rattle.cw_press.proofs.Terms.{joined_done, as_it_is, done_then, Setting, Press, Weaves, underlined}
use Rattle.cw_press.proofs.WeavingLaws.{joined-joined, limit-append, productions-append, scraps-append, ticks-append}
use Rattle.cw_press.proofs.WeavingLaws.{underlined-append, underlined-none, weaves-as, weaves-refused}
use Rattle.cw_names.specs.declared.xrefs.Occurrence.{Occurrence}

-- ## One piece

-- counts of no text, and sums of counts
abbrev pub no_counts : Counts
no_counts = record { scraps = 0; productions = 0 }

pub record AreSums (sum first more : Counts) : Type 0 where
  pub scraps : sum.scraps ≡ first.scraps + more.scraps
  pub productions : sum.productions ≡ first.productions + more.productions

pub nothing-more : (counts : Counts) → AreSums counts counts no_counts
nothing-more counts = record { scraps = omega arith; productions = omega arith }

-- bytes that no text prints
pub weaves-bytes : {T : Type 0} {s : Setting} {bytes : List ℕ} {old : Press} {line : LineState} {told : DeskState}
    {value : T} → Puts {T = T} bytes old.line line old.told told (Ok value) → Weaves s (as_it_is bytes old.book.names)
    old (record { book = old.book; line = line; told = told; steps = old.steps }) (Ok no_counts)
weaves-bytes {s = s} {old = old} {line = line} {told = told} put =
    grind (arith, puts-bytes, append-nil, puts-then, puts-none, underlined-none)

pub weaves-nothing : (s : Setting) (old : Press) → Weaves s (as_it_is [] old.book.names) old old (Ok no_counts)
weaves-nothing s old = weaves-bytes (puts-none old.line old.told (tt {0}))

pub bytes-refused : {T : Type 0} {s : Setting} {bytes : List ℕ} {old : Press} {line : LineState} {told : DeskState}
    {error : PutError} {result : Result Counts PutError} → Puts {T = T} bytes old.line line old.told told (Err error)
    → IsErrAnd result (λ found. found ≡ error) → Weaves s (as_it_is bytes old.book.names) old
    (record { book = old.book; line = line; told = told; steps = old.steps }) result
bytes-refused {error = error} put is = grind (arith, weaves-refused, puts-bytes, append-nil, puts-stop)

-- ## A piece and then another

pub weaves-joined : {s : Setting} {a b : Done ℕ} {old mid new : Press} {first more sum : Counts} → Weaves s a old mid
    (Ok first) → Weaves s b mid new (Ok more) → AreSums sum first more → Weaves s (joined_done a b) old new (Ok sum)
weaves-joined {s = s} {a = a} {b = b} {old = old} {mid = mid} {new = new} {first = first} {more = more} {sum = sum}
    begun ended sums = record {
      puts = puts-bytes (append-nil _) (puts-then (puts-then begun.puts ended.puts) (puts-none new.line new.told sum));
      names = ended.names;
      occurrences = ended.occurrences ∙ ap (λ (os : List Occurrence). os ++ underlined s.section b.marks)
          begun.occurrences
          ∙ append_assoc old.book.xrefs (underlined s.section a.marks) (underlined s.section b.marks)
          ∙ ap (λ (os : List Occurrence). old.book.xrefs ++ os) (sym (underlined-append s.section a.marks b.marks));
      same = ended.same ∙ begun.same;
      scraps = omega (arith, begun.scraps, ended.scraps, (scraps-append a.ended b.ended), sums.scraps);
      productions = omega (
        arith,
        begun.productions,
        ended.productions,
        (productions-append s.flags a.ended b.ended),
        sums.productions,
      );
      steps_are = omega (arith, begun.steps_are, ended.steps_are, (ticks-append s.flags a.ended b.ended));
      bound = omega (arith, begun.bound, ended.bound, (limit-append s.flags a.ended b.ended));
    }

-- the first is refused
pub weaves-stopped : {s : Setting} {a : Done ℕ} (b : Done ℕ) {old new : Press} {error : PutError}
    {result : Result Counts PutError} → Weaves s a old new (Err error) → IsErrAnd result (λ found. found ≡ error)
    → Weaves s (joined_done a b) old new result
weaves-stopped {s = s} {a = a} b {old = old} {new = new} {error = error} begun is =
    grind (arith, puts-stop b.out begun.puts is, limit-append s.flags a.ended b.ended)

-- the second is refused
pub weaves-joined-refused : {s : Setting} {a b : Done ℕ} {old mid new : Press} {first : Counts} {error : PutError}
    {result : Result Counts PutError} → Weaves s a old mid (Ok first) → Weaves s b mid new (Err error)
    → IsErrAnd result (λ found. found ≡ error) → Weaves s (joined_done a b) old new result
weaves-joined-refused {s = s} {a = a} {b = b} {old = old} {mid = mid} {new = new} {error = error} begun ended is =
    weaves-refused error (puts-bytes (append-nil _) (puts-stop [] (puts-then begun.puts ended.puts) is)) (ended.same
    ∙ begun.same) (let x : mid.steps ≤ old.steps + limit_in s.flags a.ended = begun.bound in let y : new.steps ≤
    mid.steps + limit_in s.flags b.ended = ended.bound in let z : limit_in s.flags (a.ended ++ b.ended) ≡ limit_in
    s.flags a.ended + limit_in s.flags b.ended = limit-append s.flags a.ended b.ended in omega (arith, x, y, z)) is

-- memory is wanted behind the first
pub weaves-wanting : {s : Setting} {a : Done ℕ} (b : Done ℕ) {old now : Press} {first : Counts}
    {result : Result Counts PutError} → Weaves s a old now (Ok first) → IsErrAnd result (λ found. found ≡ Memory)
    → Weaves s (joined_done a b) old now result
weaves-wanting {s = s} {a = a} b {old = old} {now = now} begun is =
    weaves-refused Memory (puts-then begun.puts (puts-nothing b.out now.line now.told is)) begun.same (let x : now.steps
    ≤ old.steps + limit_in s.flags a.ended = begun.bound in let z : limit_in s.flags (a.ended ++ b.ended) ≡ limit_in
    s.flags a.ended + limit_in s.flags b.ended = limit-append s.flags a.ended b.ended in omega (arith, x, z)) is

-- ## Several pieces

-- A piece was woven, from what `old` was to what `now` is; with what is to come behind it, it is the whole.
pub record Weaving (s : Setting) (rest : List Entry → Done ℕ) (all : Done ℕ) (old now : Press)
    (counts : Counts) : Type 0 where
  pub done : Done ℕ
  pub woven : Weaves s done old now (Ok counts)
  pub goes : joined_done done (rest done.names) ≡ all

pub weaving-begun : (s : Setting) (rest : List Entry → Done ℕ) (press : Press) {counts : Counts}
    → AreSums counts no_counts no_counts → Weaving s rest (rest press.book.names) press press counts
weaving-begun s rest press none =
    grind (arith, weaves-joined (weaves-nothing s press) (weaves-nothing s press) none, weaves-nothing s press)

-- what is to come behind a piece that is woven next
goes-next : {s : Setting} (d rest : List Entry → Done ℕ) {all : Done ℕ} {old mid : Press} {counts : Counts}
    (w : Weaving s (λ names. done_then (d names) rest) all old mid counts)
    → joined_done w.done (joined_done (d mid.book.names) (rest (d mid.book.names).names)) ≡ all
goes-next d rest {mid = mid} w = grind arith

pub weaving-next : {s : Setting} (d rest : List Entry → Done ℕ) {all : Done ℕ} {old mid new : Press}
    {counts more sum : Counts} → Weaving s (λ names. done_then (d names) rest) all old mid counts
    → Weaves s (d mid.book.names) mid new (Ok more) → AreSums sum counts more → Weaving s rest all old new sum
weaving-next {s = s} d rest {all = all} {old = old} {mid = mid} w woven sums = record {
  done = joined_done w.done (d mid.book.names);
  woven = weaves-joined w.woven woven sums;
  goes = joined-joined w.done (d mid.book.names) (rest (d mid.book.names).names) ∙ goes-next d rest w;
}

pub weaving-stopped : {s : Setting} (d rest : List Entry → Done ℕ) {all : Done ℕ} {old mid new : Press}
    {counts : Counts} {error : PutError} {result : Result Counts PutError}
    → Weaving s (λ names. done_then (d names) rest) all old mid counts → Weaves s (d mid.book.names) mid new (Err error)
    → IsErrAnd result (λ found. found ≡ error) → Weaves s all old new result
weaving-stopped {s = s} d rest {all = all} {old = old} {mid = mid} w woven is = weaves-as (goes-next d rest w)
    (weaves-joined-refused w.woven (weaves-stopped (rest (d mid.book.names).names) woven refl) is)

pub weaving-wanting : {s : Setting} {rest : List Entry → Done ℕ} {all : Done ℕ} {old now : Press} {counts : Counts}
    {result : Result Counts PutError}
    → Weaving s rest all old now counts → IsErrAnd result (λ found. found ≡ Memory) → Weaves s all old now result
weaving-wanting {rest = rest} w is = weaves-as w.goes (weaves-wanting (rest w.done.names) w.woven is)

-- nothing more is to come
pub weaving-ended : {s : Setting} {rest : List Entry → Done ℕ} {all : Done ℕ} {old now : Press} {counts : Counts}
    → Weaving s rest all old now counts → ((names : List Entry) → rest names ≡ as_it_is [] names)
    → Weaves s all old now (Ok counts)
weaving-ended {s = s} {rest = rest} {all = all} {old = old} {now = now} {counts = counts} w none = weaves-as
    (ap (λ (names : List Entry). joined_done w.done (as_it_is [] names)) w.woven.names ∙ ap (joined_done w.done)
    (sym (none w.done.names)) ∙ w.goes) (weaves-joined w.woven (weaves-nothing s now) (nothing-more counts))

-- The last piece.
pub weaving-last : {s : Setting} {d : List Entry → Done ℕ} {all : Done ℕ} {old mid new : Press}
    {counts more sum : Counts} → Weaving s d all old mid counts → Weaves s (d mid.book.names) mid new (Ok more)
    → AreSums sum counts more → Weaves s all old new (Ok sum)
weaving-last {d = d} w woven sums = grind (arith, weaves-joined w.woven woven sums)

pub weaving-last-stopped : {s : Setting} {d : List Entry → Done ℕ} {all : Done ℕ} {old mid new : Press}
    {counts : Counts} {error : PutError} {result : Result Counts PutError} → Weaving s d all old mid counts → Weaves s
    (d mid.book.names) mid new (Err error) → IsErrAnd result (λ found. found ≡ error) → Weaves s all old new result
weaving-last-stopped {d = d} w woven is = grind (arith, weaves-joined-refused w.woven woven is)
