-- Laws of calls that write: nothing, more after some, and a failure that ends the rest.
use Rattle.std.specs.Prelude.{◌≡◌, ℕ, ◌<◌, ◌≤◌, List, Option, [], ◌++◌, Result, Ok, Err, IsTrue, IsErrAnd, OnOk, take}
use Rattle.std.specs.Prelude.{drop}
use Rattle.std.proofs.Common.{refl, sym, ap, ◌∙◌, subst, arith}
use Rattle.std.proofs.lemmas.List.{append-nil, take-append-drop}
use Rattle.std.proofs.lemmas.Result.{on_ok_weaker, on_err_weaker, err_from_is_err_and}
use Rattle.cw_base.specs.declared.event.Event.{Event}
use Rattle.cw_base.specs.declared.event.Out.{Out}
use Rattle.cw_desk.specs.Journal.{byte_events}
use Rattle.cw_desk.specs.laws.JournalLaws.{grown-none, grown-after, byte_events-append, part-first, part-second}
use Rattle.cw_desk.specs.laws.JournalLaws.{part-same}
use Rattle.cw_desk.specs.Meaning.{Rose, is_open}
use Rattle.cw_desk.specs.State.{DeskState, OnlyPuts}
use Rattle.cw_desk.specs.declared.outputs.Outputs.{Outputs}
use Rattle.cw_lines.specs.Compared.{Compares, came_without, id_of, rests_without}
use Rattle.cw_lines.specs.laws.ComparedLaws.{compares-bytes, compares-none, compares-then, shortens-none, shortens-then}
use Rattle.cw_lines.specs.Cut.{cut, written}
use Rattle.cw_lines.specs.laws.FillLaws.{fill-none, fill-append, fill-out, fill-cut}
use Rattle.cw_lines.specs.Line.{Line, LineState, Filled, fill, line_events, new_line}
use Rattle.cw_lines.specs.model.Line.{filled_with}
use Rattle.cw_lines.specs.Writes.{CanWrite, Adds, Puts, Writes}
use Rattle.cw_lines.specs.declared.put_error.PutError.{PutError}
use Rattle.cw_lines.specs.declared.put_error.PutError.TheVariants.{Fault, Memory}

pub rose-later : (a b c : ℕ) → a ≤ b → Rose b c → Rose a c
rose-later a b c kept rose = grind arith

only_puts-none : (told : DeskState) → OnlyPuts told told
only_puts-none told = record {
  same_names = refl;
  same_opened = refl;
  same_outputs = refl;
  narrows = λ files is. is;
  handed_kept = omega arith;
  same_rests = refl;
  same_came = refl;
  faults_kept = omega arith;
}

only_puts-then : {a b c : DeskState} → OnlyPuts a b → OnlyPuts b c → OnlyPuts a c
only_puts-then {a = a} {b = b} {c = c} first second = record {
  same_names = second.same_names ∙ first.same_names;
  same_opened = second.same_opened ∙ first.same_opened;
  same_outputs = second.same_outputs ∙ first.same_outputs;
  narrows = λ files is. first.narrows files (second.narrows files is);
  handed_kept = let x : a.handed ≤ b.handed = first.handed_kept in let y : b.handed ≤ c.handed = second.handed_kept in
      omega arith;
  same_rests = second.same_rests ∙ first.same_rests;
  same_came = second.same_came ∙ first.same_came;
  faults_kept = let x : a.faults ≤ b.faults = first.faults_kept in let y : b.faults ≤ c.faults = second.faults_kept in
      omega arith;
}

pub adds-none : {T : Type 0} (told : DeskState) (value : T) → Adds [] told told (Ok value)
adds-none told value = record {
  ok = sym (grown-none told.journal);
  err = tt;
  same = only_puts-none told;
  fault = λ e. cc;
}

pub adds-then : {T U : Type 0} {first second : List Event} {a b c : DeskState} {value : T} {result : Result U PutError}
    → Adds {T = T} first a b (Ok value) → Adds second b c result → Adds (first ++ second) a c result
adds-then {first = first} {second = second} {a = a} {b = b} {c = c} {result = result} begun ended = record {
  ok = on_ok_weaker result (λ grew. grown-after a.journal first second begun.ok grew) ended.ok;
  err = on_err_weaker result (λ part. part-second a.journal first begun.ok part) ended.err;
  same = only_puts-then begun.same ended.same;
  fault = λ is. rose-later a.faults b.faults c.faults begun.same.faults_kept (ended.fault is);
}

pub is_err : {T E : Type 0} (result : Result T E) (error : E) → IsErrAnd result (λ found. found ≡ error)
    → result ≡ Err error
is_err result error is = let p = err_from_is_err_and result is in p.1 ∙ ap Err p.2

pub adds-stop : {T U : Type 0} {first : List Event} (second : List Event) {a b : DeskState} {error : PutError}
    {result : Result U PutError}
    → Adds {T = T} first a b (Err error) → IsErrAnd result (λ found. found ≡ error) → Adds (first ++ second) a b result
adds-stop {U = U} {first = first} second {a = a} {b = b} {error = error} {result = result} begun is =
    let stopped : Adds {T = U} (first ++ second) a b (Err error) = record {
      ok = tt;
      err = part-first second begun.err;
      same = begun.same;
      fault = λ e. begun.fault cc;
    } in
    subst (λ (r : Result U PutError). Adds (first ++ second) a b r) (sym (is_err result error is)) stopped

-- a failure other than Fault, before anything was written
pub adds-nothing : {U : Type 0} (events : List Event) (told : DeskState) {error : PutError} {result : Result U PutError}
    → IsErrAnd result (λ found. found ≡ error) → (error ≡ Fault → ⊥) → Adds events told told result
adds-nothing {U = U} events told {error = error} {result = result} is other =
    let stopped : Adds {T = U} events told told (Err error) = record {
      ok = tt;
      err = part-same events refl;
      same = only_puts-none told;
      fault = λ e. absurd (other cc);
    } in
    subst (λ (r : Result U PutError). Adds events told told r) (sym (is_err result error is)) stopped

-- the same failure, of these events
pub adds-fail : {T U : Type 0} {events : List Event} {a b : DeskState} {error : PutError} {result : Result U PutError}
    → Adds {T = T} events a b (Err error) → IsErrAnd result (λ found. found ≡ error) → Adds events a b result
adds-fail {events = events} {a = a} {b = b} {result = result} begun is =
    subst (λ (all : List Event). Adds all a b result) (append-nil events) (adds-stop [] begun is)

pub adds-events : {T : Type 0} {first second : List Event} {a b : DeskState} {result : Result T PutError} → first
    ≡ second
    → Adds first a b result → Adds second a b result
adds-events {a = a} {b = b} {result = result} same adds = subst (λ (events : List Event). Adds events a b result) same
    adds

-- ## Calls that may read on in an old file

-- a call that reads none
pub adds-writes : {T : Type 0} (file : Option ℕ) {events : List Event} {a b : DeskState} {result : Result T PutError}
    → Adds events a b result → Writes file events a b result
adds-writes file adds = record {
  adds = record {
    ok = adds.ok;
    err = adds.err;
    same = record {
      same_names = adds.same.same_names;
      same_opened = adds.same.same_opened;
      same_outputs = adds.same.same_outputs;
      narrows = adds.same.narrows;
      handed_kept = adds.same.handed_kept;
      same_rests = ap (rests_without file) adds.same.same_rests;
      same_came = ap (came_without file) adds.same.same_came;
      faults_kept = adds.same.faults_kept;
    };
    fault = adds.fault;
  };
  shorter = shortens-none file adds.same.same_rests;
}

pub writes-none : {T : Type 0} (file : Option ℕ) (told : DeskState) (value : T) → Writes file [] told told (Ok value)
writes-none file told value = adds-writes file (adds-none told value)

pub writes-then : {T U : Type 0} {file : Option ℕ} {first second : List Event} {a b c : DeskState} {value : T}
    {result : Result U PutError}
    → Writes {T = T} file first a b (Ok value) → Writes file second b c result
    → Writes file (first ++ second) a c result
writes-then begun ended = record {
  adds = adds-then begun.adds ended.adds;
  shorter = shortens-then ended.adds.same.narrows begun.shorter ended.shorter;
}

pub writes-stop : {T U : Type 0} {file : Option ℕ} {first : List Event} (second : List Event) {a b : DeskState}
    {error : PutError} {result : Result U PutError}
    → Writes {T = T} file first a b (Err error) → IsErrAnd result (λ found. found ≡ error)
    → Writes file (first ++ second) a b result
writes-stop second begun is = record { adds = adds-stop second begun.adds is; shorter = begun.shorter }

pub writes-events : {T : Type 0} {file : Option ℕ} {first second : List Event} {a b : DeskState} {result : Result T
    PutError}
    → first ≡ second
    → Writes file first a b result → Writes file second a b result
writes-events {file = file} {a = a} {b = b} {result = result} same writes =
    subst (λ (events : List Event). Writes file events a b result) same writes

-- the same failure, of these events
pub writes-fail : {T U : Type 0} {file : Option ℕ} {events : List Event} {a b : DeskState} {error : PutError}
    {result : Result U PutError}
    → Writes {T = T} file events a b (Err error) → IsErrAnd result (λ found. found ≡ error)
    → Writes file events a b result
writes-fail {events = events} begun is = writes-events (append-nil events) (writes-stop [] begun is)

pub writes-file : {T : Type 0} {file other : Option ℕ} {events : List Event} {a b : DeskState} {result : Result T
    PutError}
    → file ≡ other
    → Writes file events a b result → Writes other events a b result
writes-file {events = events} {a = a} {b = b} {result = result} same writes =
    subst (λ (f : Option ℕ). Writes f events a b result) same writes

-- ## Calls that put bytes to a line

-- what was written, when what the bytes fill is known
pub puts-known : {T : Type 0} {bytes : List ℕ} {old new : LineState} {before now : DeskState} {result : Result T
    PutError}
    (filled : Filled) → fill old.line bytes ≡ filled
    → new.line.out ≡ old.line.out → id_of new.compared ≡ id_of old.compared → OnOk result (new.line ≡ filled.line)
    → Writes (id_of old.compared) (byte_events old.line.out filled.written) before now result
    → OnOk result (Compares filled.written old.compared new.compared before now) → Puts bytes old new before now result
puts-known {old = old} {new = new} {before = before} {now = now} {result = result} filled known out file line writes
    compares = record {
      same_out = out;
      same_file = file;
      line = subst (λ (f : Filled). OnOk result (new.line ≡ f.line)) (sym known) line;
      writes = subst (λ (f : Filled). Writes (id_of old.compared) (byte_events old.line.out f.written) before now
          result)
          (sym known) writes;
      compares = subst (λ (f : Filled). OnOk result (Compares f.written old.compared new.compared before now))
          (sym known)
          compares;
    }

-- a call that was refused
pub puts-refused : {T : Type 0} {bytes : List ℕ} {old new : LineState} {before now : DeskState} (error : PutError)
    {result : Result T PutError} (filled : Filled) → fill old.line bytes ≡ filled
    → new.line.out ≡ old.line.out → id_of new.compared ≡ id_of old.compared → IsErrAnd result (λ found. found ≡ error)
    → Writes (id_of old.compared) (byte_events old.line.out filled.written) before now result
    → Puts bytes old new before now result
puts-refused {T = T} {old = old} {new = new} {before = before} {now = now} error {result = result} filled known out file
    is writes =
    let err : result ≡ Err error = is_err result error is in
    puts-known filled known out file (subst (λ (r : Result T PutError). OnOk r (new.line ≡ filled.line)) (sym err) tt)
    writes
    (subst (λ (r : Result T PutError). OnOk r (Compares filled.written old.compared new.compared before now)) (sym err)
    tt)

-- a call that was refused before it put a byte to the line
pub puts-failed : {T : Type 0} {bytes : List ℕ} {old new : LineState} {before now : DeskState} (error : PutError)
    {result : Result T PutError} (filled : Filled) → fill old.line bytes ≡ filled
    → new ≡ old → IsErrAnd result (λ found. found ≡ error)
    → Adds (byte_events old.line.out filled.written) before now result → Puts bytes old new before now result
puts-failed {old = old} error filled known same is adds =
    puts-refused error filled known (ap (λ (l : LineState). l.line.out) same)
    (ap (λ (l : LineState). id_of l.compared) same) is (adds-writes (id_of old.compared) adds)

-- memory was refused before a byte was put
pub puts-nothing : {U : Type 0} (bytes : List ℕ) (line : LineState) (told : DeskState) {result : Result U PutError}
    → IsErrAnd result (λ found. found ≡ Memory) → Puts bytes line line told told result
puts-nothing bytes line told is =
    puts-failed Memory (fill line.line bytes) refl refl is (adds-nothing _ told is (λ e. absurd (cc)))

pub puts-none : {T : Type 0} (line : LineState) (told : DeskState) (value : T) → Puts [] line line told told (Ok value)
puts-none line told value =
    puts-known (record { line = line.line; written = [] }) (fill-none line.line) refl refl refl
    (writes-none (id_of line.compared) told value)
    (compares-none line.compared told)

events-append : (line mid : Line) (xs ys : List ℕ) → mid ≡ (fill line xs).line
    → byte_events line.out (fill line (xs ++ ys)).written ≡ byte_events line.out (fill line xs).written
    ++ byte_events mid.out (fill mid ys).written
events-append line mid xs ys is =
    ap (λ (f : Filled). byte_events line.out f.written) (fill-append line xs ys)
    ∙ byte_events-append line.out (fill line xs).written (fill (fill line xs).line ys).written
    ∙ ap (λ (out : Out). byte_events line.out (fill line xs).written
    ++ byte_events out (fill (fill line xs).line ys).written) (sym (fill-out line xs))
    ∙ ap (λ (l : Line). byte_events line.out (fill line xs).written ++ byte_events l.out (fill l ys).written) (sym is)

written-append : (line mid : Line) (xs ys : List ℕ) → mid ≡ (fill line xs).line
    → (fill line (xs ++ ys)).written ≡ (fill line xs).written ++ (fill mid ys).written
written-append line mid xs ys is =
    ap (λ (f : Filled). f.written) (fill-append line xs ys)
    ∙ ap (λ (l : Line). (fill line xs).written ++ (fill l ys).written) (sym is)

pub puts-then : {T U : Type 0} {xs ys : List ℕ} {first second third : LineState} {a b c : DeskState} {value : T}
    {result : Result U PutError}
    → Puts {T = T} xs first second a b (Ok value) → Puts ys second third b c result
    → Puts (xs ++ ys) first third a c result
puts-then {xs = xs} {ys = ys} {first = first} {second = second} {third = third} {a = a} {c = c} {result = result} begun
    ended = record {
      same_out = ended.same_out ∙ begun.same_out;
      same_file = ended.same_file ∙ begun.same_file;
      line = on_ok_weaker result
          (λ is. is ∙ ap (λ (l : Line). (fill l ys).line) begun.line
          ∙ sym (ap (λ (f : Filled). f.line) (fill-append first.line xs ys))) ended.line;
      writes = writes-events (sym (events-append first.line second.line xs ys begun.line))
          (writes-then begun.writes (writes-file begun.same_file ended.writes));
      compares = on_ok_weaker result
          (λ more. compares-bytes (sym (written-append first.line second.line xs ys begun.line))
          (compares-then ended.writes.adds.same.narrows begun.compares more)) ended.compares;
    }

pub puts-stop : {T U : Type 0} {xs : List ℕ} (ys : List ℕ) {first second : LineState} {a b : DeskState} {error :
    PutError}
    {result : Result U PutError}
    → Puts {T = T} xs first second a b (Err error) → IsErrAnd result (λ found. found ≡ error)
    → Puts (xs ++ ys) first second a b result
puts-stop {U = U} {xs = xs} ys {first = first} {second = second} {a = a} {b = b} {error = error} {result = result} begun
    is =
    puts-refused error (fill first.line (xs ++ ys)) refl begun.same_out begun.same_file is
    (writes-events (sym (events-append first.line _ xs ys refl)) (writes-stop _ begun.writes is))

-- a failure in the first n bytes is a failure in all of them
pub puts-within : {T U : Type 0} (bytes : List ℕ) (n : ℕ) {first second : LineState} {a b : DeskState} {error :
    PutError}
    {result : Result U PutError}
    → Puts {T = T} (take n bytes) first second a b (Err error) → IsErrAnd result (λ found. found ≡ error)
    → Puts bytes first second a b result
puts-within bytes n {first = first} {second = second} {a = a} {b = b} {result = result} begun is =
    subst (λ (all : List ℕ). Puts all first second a b result) (take-append-drop n bytes)
    (puts-stop (drop n bytes) begun is)

-- the same bytes
pub puts-bytes : {T : Type 0} {xs ys : List ℕ} {first second : LineState} {a b : DeskState} {result : Result T PutError}
    → xs ≡ ys
    → Puts xs first second a b result → Puts ys first second a b result
puts-bytes {first = first} {second = second} {a = a} {b = b} {result = result} same puts =
    subst (λ (bytes : List ℕ). Puts bytes first second a b result) same puts

-- the same failure of a call around it
pub puts-failing : {T U : Type 0} {xs ys : List ℕ} {first second : LineState} {a b : DeskState} {error : PutError}
    {result : Result U PutError} → xs ≡ ys
    → Puts {T = T} xs first second a b (Err error) → IsErrAnd result (λ found. found ≡ error)
    → Puts ys first second a b result
puts-failing {xs = xs} same begun is = puts-bytes (append-nil xs ∙ same) (puts-stop [] begun is)

-- a failure in the first bytes is a failure in more of them
pub puts-longer : {T : Type 0} {xs : List ℕ} (ys : List ℕ) {first second : LineState} {a b : DeskState} {error :
    PutError}
    → Puts {T = T} xs first second a b (Err error) → Puts {T = T} (xs ++ ys) first second a b (Err error)
puts-longer ys begun = puts-stop ys begun refl

-- what is written keeps the output writable
pub can-after : {T : Type 0} {bytes : List ℕ} {old new : LineState} {before now : DeskState} {result : Result T
    PutError}
    → CanWrite before old → Puts bytes old new before now result → CanWrite now new
can-after {old = old} {new = new} {before = before} can put = record {
  output =
      subst (λ (outputs : Outputs). IsTrue (is_open outputs new.line.out)) (sym put.writes.adds.same.same_outputs)
      (subst (λ (out : Out). IsTrue (is_open before.outputs out)) (sym put.same_out) can.output);
  old_file = λ id is. subst (λ (opened : ℕ). id < opened) (sym put.writes.adds.same.same_opened)
      (can.old_file id (sym put.same_file ∙ is));
}

-- what a line on which nothing was put before has written, and what it is then, in the words of the definition of
-- cutting
pub puts-new : {T : Type 0} {bytes : List ℕ} {old new : LineState} {before now : DeskState} {result : Result T PutError}
    (out : Out) → old.line ≡ new_line out
    → Puts bytes old new before now result → Writes (id_of old.compared) (line_events out (cut bytes).lines) before now
    result
puts-new {bytes = bytes} out is put =
    writes-events
    (ap (λ (l : Line). byte_events l.out (fill l bytes).written) is
    ∙ ap (λ (f : Filled). byte_events out f.written) (fill-cut out bytes)) put.writes

pub puts-new_line : {T : Type 0} {bytes : List ℕ} {old new : LineState} {before now : DeskState} {result : Result T
    PutError}
    (out : Out) → old.line ≡ new_line out
    → Puts bytes old new before now result → OnOk result (new.line ≡ (filled_with (new_line out) (cut bytes)).line)
puts-new_line {bytes = bytes} {result = result} out is put =
    on_ok_weaker result (λ line. line ∙ ap (λ (l : Line). (fill l bytes).line) is
    ∙ ap (λ (f : Filled). f.line) (fill-cut out bytes)) put.line

-- what it has compared with the old file
pub puts-new_compared : {T : Type 0} {bytes : List ℕ} {old new : LineState} {before now : DeskState}
    {result : Result T PutError} (out : Out) → old.line ≡ new_line out
    → Puts bytes old new before now result → OnOk result (Compares (written (cut bytes).lines) old.compared new.compared
    before now)
puts-new_compared {bytes = bytes} {result = result} out is put =
    on_ok_weaker result
    (λ compares. compares-bytes (ap (λ (l : Line). (fill l bytes).written) is
    ∙ ap (λ (f : Filled). f.written) (fill-cut out bytes)) compares) put.compares

-- what proves that bytes are put call by call
pub ruleset putting = (puts-then, puts-stop, can-after)

-- the same of events
pub ruleset adding = (adds-none, adds-then, adds-stop, adds-fail)
