-- Laws of calls that emit events: nothing, more after some, and a failure that ends the rest.
use Rattle.std.specs.Prelude.{◌≢◌, ◌==◌, ◌&&◌, Bool, true, false, cond, bytes_eq, IsErrAnd, IfOk, IsTrue, OnErr, OnOk}
use Rattle.std.specs.FinMap.{get}
use Rattle.std.proofs.Common.{◌≡◌, ℕ, ◌≤◌, List, [], ◌∷◌, ◌++◌, Option, Some, None, Result, Ok, Err, refl, sym, ap, ◌∙◌}
use Rattle.std.proofs.Common.{subst, arith}
use Rattle.std.proofs.lemmas.List.{append-nil}
use Rattle.std.proofs.lemmas.Result.{IfOk-weaker, on_ok_weaker, on_err_weaker}
use Rattle.std.specs.Option.{option_map_or}
use Rattle.cw_base.specs.declared.event.Event.{Event}
use Rattle.cw_base.specs.declared.event.Out.{Out}
use Rattle.cw_base.specs.declared.exit.Exit.{Exit}
use Rattle.cw_desk.specs.Journal.{grown, GrownByPart}
use Rattle.cw_desk.specs.laws.JournalLaws.{grown-none, grown-after, part-first, part-same, part-second}
use Rattle.cw_base.specs.declared.event.Out.TheVariants.{Term, Tex, Idx, Scn}
use Rattle.cw_desk.specs.Meaning.{Files, NamedFiles, has_draft, is_open, with_draft, with_output}
use Rattle.cw_desk.specs.laws.MeaningLaws.{drafted-is_open, made-is_open}
use Rattle.cw_desk.specs.State.{DeskState, OnlyReads, Turns}
use Rattle.cw_desk.specs.declared.desk.MadeOut.{MadeOut}
use Rattle.cw_desk.specs.declared.desk.MadeOut.TheVariants.{Done, Failed, Memory as no_memory}
use Rattle.cw_desk.specs.declared.outputs.Outputs.{Outputs}
use Rattle.cw_lines.specs.Compared.{behind_beginning, left, left_behind}
use Rattle.cw_lines.specs.Cut.{cut, written}
use Rattle.cw_lines.specs.Line.{LineState}
use Rattle.cw_lines.specs.Writes.{Adds, Puts, Writes}
use Rattle.cw_lines.specs.laws.WritesLaws.{adds-nothing, is_err, rose-later, puts-new, puts-new_compared}
use Rattle.cw_lines.specs.declared.put_error.PutError.{PutError}
use Rattle.cw_lines.specs.declared.put_error.PutError.TheVariants.{Memory}
use Rattle.cw_run.specs.Emits.{Emits, EmitsBy, Faults, Run, Runs, RunsBy}
use Rattle.cw_run.specs.Files.{IsBegun, OutFile, answered, begun, file_events, none_left, settled, settled_if}

-- a call that only prints
pub adds-emits : {T : Type 0} {events : List Event} {a b : DeskState} {result : Result T PutError}
    → Adds events a b result
    → Emits events a b result
adds-emits adds = record {
  ok = adds.ok;
  err = adds.err;
  narrows = adds.same.narrows;
  handed = adds.same.handed_kept;
  kept = adds.same.faults_kept;
  fault = adds.fault;
}

pub writes-emits : {T : Type 0} {file : Option ℕ} {events : List Event} {a b : DeskState} {result : Result T PutError}
    → Writes file events a b result → Emits events a b result
writes-emits writes = record {
  ok = writes.adds.ok;
  err = writes.adds.err;
  narrows = writes.adds.same.narrows;
  handed = writes.adds.same.handed_kept;
  kept = writes.adds.same.faults_kept;
  fault = writes.adds.fault;
}

-- another answer after the same events
pub emits-value : {T U : Type 0} {events : List Event} {a b : DeskState} {value : T} (other : U)
    → Emits {T = T} events a b (Ok value) → Emits {T = U} events a b (Ok other)
emits-value other done = record {
  ok = done.ok;
  err = tt;
  narrows = done.narrows;
  handed = done.handed;
  kept = done.kept;
  fault = λ e. cc;
}

pub emits-then : {T U : Type 0} {first second : List Event} {a b c : DeskState} {value : T} {result : Result U PutError}
    → Emits {T = T} first a b (Ok value) → Emits second b c result → Emits (first ++ second) a c result
emits-then {first = first} {second = second} {a = a} {b = b} {c = c} {result = result} begun ended = record {
  ok = on_ok_weaker result (λ grew. grown-after a.journal first second begun.ok grew) ended.ok;
  err = on_err_weaker result (λ part. part-second a.journal first begun.ok part) ended.err;
  narrows = λ files is. begun.narrows files (ended.narrows files is);
  handed = let x : a.handed ≤ b.handed = begun.handed in let y : b.handed ≤ c.handed = ended.handed in omega arith;
  kept = let x : a.faults ≤ b.faults = begun.kept in let y : b.faults ≤ c.faults = ended.kept in omega arith;
  fault = λ is. rose-later a.faults b.faults c.faults begun.kept (ended.fault is);
}

pub emits-stop : {T U : Type 0} {first : List Event} (second : List Event) {a b : DeskState} {error : PutError}
    {result : Result U PutError}
    → Emits {T = T} first a b (Err error) → IsErrAnd result (λ found. found ≡ error)
    → Emits (first ++ second) a b result
emits-stop {U = U} {first = first} second {a = a} {b = b} {error = error} {result = result} begun is =
    let stopped : Emits {T = U} (first ++ second) a b (Err error) =
    record {
      ok = tt;
      err = part-first second begun.err;
      narrows = begun.narrows;
      handed = begun.handed;
      kept = begun.kept;
      fault = λ e. begun.fault cc;
    } in
    subst (λ (r : Result U PutError). Emits (first ++ second) a b r) (sym (is_err result error is)) stopped

pub emits-events : {T : Type 0} {first second : List Event} {a b : DeskState} {result : Result T PutError} → first
    ≡ second
    → Emits first a b result → Emits second a b result
emits-events {a = a} {b = b} {result = result} same emits = subst (λ (events : List Event). Emits events a b result)
    same emits

-- the same failure of a call around it
pub emits-fail : {T U : Type 0} {events : List Event} {a b : DeskState} {error : PutError} {result : Result U PutError}
    → Emits {T = T} events a b (Err error) → IsErrAnd result (λ found. found ≡ error) → Emits events a b result
emits-fail {events = events} begun is = emits-events (append-nil events) (emits-stop [] begun is)

-- memory was refused before anything was emitted
pub emits-nothing : {T : Type 0} (events : List Event) (told : DeskState) {result : Result T PutError}
    → IsErrAnd result (λ found. found ≡ Memory) → Emits events told told result
emits-nothing events told is = adds-emits (adds-nothing events told is (λ e. absurd cc))

-- ## Faults alone

pub emits-faults : {T : Type 0} {events : List Event} {a b : DeskState} {result : Result T PutError}
    → Emits events a b result → Faults a b result
emits-faults done = record { kept = done.kept; fault = done.fault }

pub faults-then : {T : Type 0} {a b c : DeskState} {result : Result T PutError} → a.faults ≤ b.faults
    → Faults b c result
    → Faults a c result
faults-then {a = a} {b = b} {c = c} kept done = record {
  kept = let x : b.faults ≤ c.faults = done.kept in omega arith;
  fault = λ is. rose-later a.faults b.faults c.faults kept (done.fault is);
}

faults-as : {T U : Type 0} {a b : DeskState} {error : PutError} {result : Result U PutError}
    → Faults {T = T} a b (Err error)
    → IsErrAnd result (λ found. found ≡ error) → Faults a b result
faults-as {U = U} {a = a} {b = b} {error = error} {result = result} done is =
    let refused : Faults {T = U} a b (Err error) = record { kept = done.kept; fault = λ e. done.fault cc } in
    subst (λ (r : Result U PutError). Faults a b r) (sym (is_err result error is)) refused

-- ## Events that depend on the files

pub emits-by : {T : Type 0} {events : List Event} {a b : DeskState} {result : Result T PutError}
    → Emits events a b result
    → EmitsBy (λ named. events) a b result
emits-by done = record { emits = λ files is. done; faults = emits-faults done }

pub emits_by-then : {T U : Type 0} {first second : NamedFiles → List Event} {a b c : DeskState} {value : T}
    {result : Result U PutError}
    → EmitsBy {T = T} first a b (Ok value) → EmitsBy second b c result
    → EmitsBy (λ named. first named ++ second named) a c result
emits_by-then begun ended = record {
  emits = λ files is. let done = ended.emits files is in emits-then (begun.emits files (done.narrows files is)) done;
  faults = faults-then begun.faults.kept ended.faults;
}

pub emits_by-stop : {T U : Type 0} {first : NamedFiles → List Event} (second : NamedFiles
    → List Event) {a b : DeskState}
    {error : PutError} {result : Result U PutError}
    → EmitsBy {T = T} first a b (Err error) → IsErrAnd result (λ found. found ≡ error)
    → EmitsBy (λ named. first named ++ second named) a b result
emits_by-stop second begun is = record {
  emits = λ files there. emits-stop _ (begun.emits files there) is;
  faults = faults-as begun.faults is;
}

pub emits_by-events : {T : Type 0} {first second : NamedFiles → List Event} {a b : DeskState} {result : Result T
    PutError}
    → ((named : NamedFiles) → first named ≡ second named)
    → EmitsBy first a b result → EmitsBy second a b result
emits_by-events same done = record {
  emits = λ files is. emits-events (same (get files)) (done.emits files is);
  faults = done.faults;
}

-- the same failure of a call around it
pub emits_by-fail : {T U : Type 0} {events : NamedFiles → List Event} {a b : DeskState} {error : PutError}
    {result : Result U PutError}
    → EmitsBy {T = T} events a b (Err error) → IsErrAnd result (λ found. found ≡ error) → EmitsBy events a b result
emits_by-fail done is = record {
  emits = λ files there. emits-fail (done.emits files there) is;
  faults = faults-as done.faults is;
}

-- another answer after the same events
pub emits_by-value : {T U : Type 0} {events : NamedFiles → List Event} {a b : DeskState} {value : T} (other : U)
    → EmitsBy {T = T} events a b (Ok value)
    → EmitsBy {T = U} events a b (Ok other)
emits_by-value other done = record {
  emits = λ files is. emits-value other (done.emits files is);
  faults = record { kept = done.faults.kept; fault = λ e. cc };
}

-- ## An output file

-- a call that begins or ends an output
pub turns-emits : {done : Outputs} {event : Event} {a b : DeskState} (made : MadeOut) → Turns done event made a b
    → Emits (event ∷ []) a b (answered made)
turns-emits Done turns = record {
  ok = turns.journal;
  err = tt;
  narrows = turns.narrows;
  handed = turns.handed_kept;
  kept = turns.faults_kept;
  fault = λ e. cc;
}
turns-emits Failed turns = record {
  ok = tt;
  err = part-same _ (turns.journal ∙ grown-none _);
  narrows = turns.narrows;
  handed = turns.handed_kept;
  kept = turns.faults_kept;
  fault = λ e. turns.failed refl;
}
turns-emits no_memory turns = record {
  ok = tt;
  err = part-same _ (turns.journal ∙ grown-none _);
  narrows = turns.narrows;
  handed = turns.handed_kept;
  kept = turns.faults_kept;
  fault = λ e. absurd cc;
}

-- an output that was made or drafted can be written
pub made-opens : (out : Out) {event : Event} {a b : DeskState} (made : MadeOut)
    → Turns (with_output out a.outputs) event made a b
    → OnOk (answered made) (IsTrue (is_open b.outputs out))
made-opens out {a = a} Done turns = subst (λ (outputs : Outputs). IsTrue (is_open outputs out)) (sym turns.outputs)
    (made-is_open out a.outputs)
made-opens out Failed turns = tt
made-opens out no_memory turns = tt

pub draft-opens : (out : Out) {event : Event} {a b : DeskState} (made : MadeOut)
    → Turns (with_draft out a.outputs) event made a b
    → OnOk (answered made) (IsTrue (is_open b.outputs out))
draft-opens out {a = a} Done turns = subst (λ (outputs : Outputs). IsTrue (is_open outputs out)) (sym turns.outputs)
    (drafted-is_open out a.outputs)
draft-opens out Failed turns = tt
draft-opens out no_memory turns = tt

drafted-has_draft : (out : Out) (outputs : Outputs) → out ≢ Term → IsTrue (has_draft (with_draft out outputs) out)
drafted-has_draft Term outputs file = absurd (file refl)
drafted-has_draft Tex outputs file = refl
drafted-has_draft Idx outputs file = refl
drafted-has_draft Scn outputs file = refl

pub draft-drafts : (out : Out) {event : Event} {a b : DeskState} (made : MadeOut) → out ≢ Term
    → Turns (with_draft out a.outputs) event made a b
    → OnOk (answered made) (IsTrue (has_draft b.outputs out))
draft-drafts out {a = a} Done file turns = subst (λ (outputs : Outputs). IsTrue (has_draft outputs out))
    (sym turns.outputs) (drafted-has_draft out a.outputs file)
draft-drafts out Failed file turns = tt
draft-drafts out no_memory file turns = tt

stripped-same : (same : Bool) (xs ys : List ℕ) → none_left (behind_beginning xs ys) ≡ bytes_eq xs ys
    → none_left (cond same (behind_beginning xs ys) None) ≡ (same && bytes_eq xs ys)
stripped-same true xs ys is = is
stripped-same false xs ys is = refl

behind-same : (xs ys : List ℕ) → none_left (behind_beginning xs ys) ≡ bytes_eq xs ys
behind-same [] [] = refl
behind-same [] (y ∷ ys) = refl
behind-same (x ∷ xs) [] = refl
behind-same (x ∷ xs) (y ∷ ys) = stripped-same (x == y) xs ys (behind-same xs ys)

-- nothing is left behind the bytes of a file, exactly where it has just these
pub end-same : (bytes : List ℕ) (old : Option (List ℕ)) → none_left (left_behind bytes old)
    ≡ option_map_or (bytes_eq bytes) old false
end-same bytes None = refl
end-same bytes (Some text) = behind-same bytes text

-- whether a file is there, with just these bytes
settled-same : (keep : Bool) (out : Out) (bytes : List ℕ) {rest : Option (List ℕ)} (old : Option (List ℕ))
    → (IsTrue keep → rest ≡ left_behind bytes old)
    → settled_if keep (none_left rest) out ≡ settled_if keep (option_map_or (bytes_eq bytes) old false) out
settled-same false out bytes old is = refl
settled-same true out bytes old is = ap (λ (same : Bool). settled same out ∷ []) (ap none_left (is refl)
    ∙ end-same bytes old)

-- A file is begun, bytes are put to its lines, and it is ended.
pub emits_by-file : {S T U : Type 0} (keep : Bool) (f : OutFile) {old new : LineState} {a b c d : DeskState} {lines : S}
    {value : T} {result : Result U PutError}
    → Emits {T = S} (begun keep f.out f.name ∷ []) a b (Ok lines) → IsBegun keep f.out f.name old a b
    → Puts {T = T} f.bytes old new b c (Ok value)
    → ((files : Files) → d.agrees files
    → Emits (settled_if keep (none_left (left files c new.compared)) f.out) c d result)
    → Faults c d result
    → EmitsBy (file_events keep f) a d result
emits_by-file keep f {old = old} {new = new} {b = b} {c = c} made is put ended faults =
    let lines = writes-emits (puts-new f.out is.line put) in
    record {
      emits = λ files agree.
          let done = ended files agree in
          let earlier : c.agrees files = done.narrows files agree in
          let bytes : List ℕ = written (cut f.bytes).lines in
          let rest : IsTrue keep → left files c new.compared ≡ left_behind bytes (get files f.name) =
          λ asked. (puts-new_compared f.out is.line put).rest files earlier
          ∙ ap (left_behind bytes) (is.old files (lines.narrows files earlier) asked) in
          let same = settled-same keep f.out bytes (get files f.name) rest in
          emits-then made (emits-then lines (emits-events same done));
      faults = faults-then {b = b} made.kept (faults-then {b = c} lines.kept faults);
    }

pub file-refused : {S T U : Type 0} (keep : Bool) (f : OutFile) {old new : LineState} {a b c : DeskState} {lines : S}
    {error : PutError} {result : Result U PutError}
    → Emits {T = S} (begun keep f.out f.name ∷ []) a b (Ok lines) → IsBegun keep f.out f.name old a b
    → Puts {T = T} f.bytes old new b c (Err error)
    → IsErrAnd result (λ found. found ≡ error) → EmitsBy (file_events keep f) a c result
file-refused keep f {b = b} made is put err =
    let lines = writes-emits (puts-new f.out is.line put) in
    record {
      emits = λ files there. emits-then made (emits-stop _ lines err);
      faults = faults-then {b = b} made.kept (faults-as (emits-faults lines) err);
    }

pub file-not_begun : {T U : Type 0} (keep : Bool) (f : OutFile) {a b : DeskState} {error : PutError}
    {result : Result U PutError}
    → Emits {T = T} (begun keep f.out f.name ∷ []) a b (Err error) → IsErrAnd result (λ found. found ≡ error)
    → EmitsBy (file_events keep f) a b result
file-not_begun keep f made err = record {
  emits = λ files there. emits-stop _ made err;
  faults = faults-as (emits-faults made) err;
}

-- ## The same of runs

pub runs-then : {T : Type 0} {first rest : List Event} {exit : Exit} {a b c : DeskState} {value : T}
    {result : Result Exit PutError}
    → Emits {T = T} first a b (Ok value) → Runs (record { rest = rest; exit = exit }) b c result
    → Runs (record { rest = first ++ rest; exit = exit }) a c result
runs-then begun ended = record { emits = emits-then begun ended.emits; exit = ended.exit }

pub runs-stop : {T : Type 0} {first : List Event} (rest : List Event) (exit : Exit) {a b : DeskState} {error : PutError}
    {result : Result Exit PutError}
    → Emits {T = T} first a b (Err error) → IsErrAnd result (λ found. found ≡ error)
    → Runs (record { rest = first ++ rest; exit = exit }) a b result
runs-stop rest exit {error = error} {result = result} begun is = record {
  emits = emits-stop rest begun is;
  exit = subst (λ (r : Result Exit PutError). IfOk r (λ e. e ≡ exit)) (sym (is_err result error is)) tt;
}

-- the same failure of a call around it
pub runs-fail : {T : Type 0} {events : List Event} (exit : Exit) {a b : DeskState} {error : PutError}
    {result : Result Exit PutError}
    → Emits {T = T} events a b (Err error) → IsErrAnd result (λ found. found ≡ error)
    → Runs (record { rest = events; exit = exit }) a b result
runs-fail exit {error = error} {result = result} begun is = record {
  emits = emits-fail begun is;
  exit = subst (λ (r : Result Exit PutError). IfOk r (λ e. e ≡ exit)) (sym (is_err result error is)) tt;
}

-- the run that is known
pub runs-known : {known run : Run} {a b : DeskState} {result : Result Exit PutError} → known
    ≡ run → Runs known a b result
    → Runs run a b result
runs-known {a = a} {b = b} {result = result} same runs = subst (λ (run : Run). Runs run a b result) same runs

-- ## Runs whose events depend on the files

pub runs-by : {run : Run} {a b : DeskState} {result : Result Exit PutError} → Runs run a b result
    → RunsBy (λ named. run) a b result
runs-by {run = run} {result = result} runs = record {
  emits = emits-by runs.emits;
  exit = IfOk-weaker result (λ e. e
      ≡ run.exit) (λ e. (named : NamedFiles) → e ≡ run.exit) (λ e is named. is) runs.exit;
}

pub runs_by-then : {T : Type 0} {first rest : NamedFiles → List Event} {exit : Exit} {a b c : DeskState} {value : T}
    {result : Result Exit PutError}
    → EmitsBy {T = T} first a b (Ok value) → RunsBy (λ named. record { rest = rest named; exit = exit }) b c result
    → RunsBy (λ named. record { rest = first named ++ rest named; exit = exit }) a c result
runs_by-then begun ended = record { emits = emits_by-then begun ended.emits; exit = ended.exit }

pub runs_by-stop : {T : Type 0} {first : NamedFiles → List Event} (rest : NamedFiles → List Event) (exit : Exit)
    {a b : DeskState} {error : PutError} {result : Result Exit PutError}
    → EmitsBy {T = T} first a b (Err error) → IsErrAnd result (λ found. found ≡ error)
    → RunsBy (λ named. record { rest = first named ++ rest named; exit = exit }) a b result
runs_by-stop rest exit {error = error} {result = result} begun is = record {
  emits = emits_by-stop rest begun is;
  exit = subst (λ (r : Result Exit PutError). IfOk r (λ e. (named : NamedFiles) → e ≡ exit))
      (sym (is_err result error is)) tt;
}

-- memory was refused before anything was emitted
pub runs_by-nothing : (run : NamedFiles → Run) (told : DeskState) {result : Result Exit PutError}
    → IsErrAnd result (λ found. found ≡ Memory) → RunsBy run told told result
runs_by-nothing run told {result = result} is = record {
  emits = record {
    emits = λ files there. emits-nothing (run (get files)).rest told is;
    faults = emits-faults (emits-nothing [] told is);
  };
  exit = subst (λ (r : Result Exit PutError). IfOk r (λ e. (named : NamedFiles) → e ≡ (run named).exit))
      (sym (is_err result Memory is)) tt;
}

-- its status, whatever files there are
pub runs_by-exit : {run : NamedFiles → Run} {a b : DeskState} {result : Result Exit PutError} (named : NamedFiles)
    → RunsBy run a b result → IfOk result (λ e. e ≡ (run named).exit)
runs_by-exit {run = run} {result = result} named runs =
    IfOk-weaker result (λ e. (named : NamedFiles) → e ≡ (run named).exit) (λ e. e ≡ (run named).exit)
    (λ e same. same named) runs.exit

-- over files that agree
pub runs_by-over : {run : NamedFiles → Run} {a b : DeskState} {result : Result Exit PutError} → RunsBy run a b result
    → (files : Files) → b.agrees files → Runs (run (get files)) a b result
runs_by-over runs files is = record {
  emits = runs.emits.emits files is;
  exit = runs_by-exit (get files) runs;
}

-- after a call that only reads
pub runs-after : {run : Run} {a b c : DeskState} {result : Result Exit PutError} → OnlyReads a b → Runs run b c result
    → Runs run a c result
runs-after {run = run} {a = a} {b = b} {c = c} {result = result} read runs = record {
  emits = record {
    ok = subst (λ (journal : List Event). OnOk result (c.journal ≡ grown journal run.rest)) read.same_journal
        runs.emits.ok;
    err = subst (λ (journal : List Event). OnErr result (GrownByPart journal c.journal run.rest))
        read.same_journal runs.emits.err;
    narrows = λ files is. read.narrows files (runs.emits.narrows files is);
    handed = let x : a.handed ≤ b.handed = read.handed_kept in let y : b.handed ≤ c.handed = runs.emits.handed in
        omega arith;
    kept = let x : a.faults ≤ b.faults = read.faults_kept in let y : b.faults ≤ c.faults = runs.emits.kept in
        omega arith;
    fault = λ is. rose-later a.faults b.faults c.faults read.faults_kept (runs.emits.fault is);
  };
  exit = runs.exit;
}
