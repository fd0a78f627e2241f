-- Laws of calls that print on a sheet: nothing, more after some, and a failure that ends the rest.
use Rattle.std.specs.Prelude.{◌≡◌, ℕ, List, [], ◌++◌, Result, Ok, Err, IsErrAnd}
use Rattle.std.proofs.Common.{refl, ◌∙◌}
use Rattle.std.proofs.lemmas.List.{append-nil}
use Rattle.cw_desk.specs.State.{DeskState}
use Rattle.cw_lines.specs.Sheets.{CanPrint, IsSameSheet, Prints}
use Rattle.cw_lines.specs.laws.WritesLaws.{can-after, puts-bytes, puts-none, puts-nothing, puts-stop, puts-then}
use Rattle.cw_lines.specs.declared.put_error.PutError.{PutError}
use Rattle.cw_lines.specs.declared.put_error.PutError.TheVariants.{Memory}
use Rattle.cw_lines.specs.declared.sheet.Sheet.{Sheet}

pub same-sheet : {D : Type 0} (sheet : Sheet D) → IsSameSheet sheet sheet
same-sheet sheet = record { line = refl; desk = refl }

pub same-then : {D : Type 0} {first second third : Sheet D} → IsSameSheet first second → IsSameSheet second third
    → IsSameSheet first third
same-then begun ended = record { line = ended.line ∙ begun.line; desk = ended.desk ∙ begun.desk }

pub prints-none : {D T : Type 0} (told : D → DeskState) (sheet : Sheet D) (value : T)
    → Prints told [] sheet sheet (Ok value)
prints-none told sheet value = record {
  puts = puts-none sheet.line.now (told sheet.desk.now) value;
  same = same-sheet sheet;
}

pub prints-then : {D T U : Type 0} {told : D → DeskState} {xs ys : List ℕ} {first second third : Sheet D} {value : T}
    {result : Result U PutError}
    → Prints {T = T} told xs first second (Ok value) → Prints told ys second third result
    → Prints told (xs ++ ys) first third result
prints-then begun ended = record {
  puts = puts-then begun.puts ended.puts;
  same = same-then begun.same ended.same;
}

pub prints-stop : {D T U : Type 0} {told : D → DeskState} {xs : List ℕ} (ys : List ℕ) {first second : Sheet D}
    {error : PutError} {result : Result U PutError}
    → Prints {T = T} told xs first second (Err error) → IsErrAnd result (λ found. found ≡ error)
    → Prints told (xs ++ ys) first second result
prints-stop ys begun is = record { puts = puts-stop ys begun.puts is; same = begun.same }

-- memory was refused before a byte was put
pub prints-nothing : {D U : Type 0} {told : D → DeskState} (bytes : List ℕ) (sheet : Sheet D) {result : Result U
    PutError}
    → IsErrAnd result (λ found. found ≡ Memory) → Prints told bytes sheet sheet result
prints-nothing {told = told} bytes sheet is = record {
  puts = puts-nothing bytes sheet.line.now (told sheet.desk.now) is;
  same = same-sheet sheet;
}

-- the same bytes
pub prints-bytes : {D T : Type 0} {told : D → DeskState} {xs ys : List ℕ} {first second : Sheet D}
    {result : Result T PutError}
    → xs ≡ ys → Prints told xs first second result → Prints told ys first second result
prints-bytes same prints = record { puts = puts-bytes same prints.puts; same = prints.same }

-- the same failure of a call around it
pub prints-failing : {D T U : Type 0} {told : D → DeskState} {xs ys : List ℕ} {first second : Sheet D} {error :
    PutError}
    {result : Result U PutError} → xs ≡ ys
    → Prints {T = T} told xs first second (Err error) → IsErrAnd result (λ found. found ≡ error)
    → Prints told ys first second result
prints-failing {xs = xs} same begun is = prints-bytes (append-nil xs ∙ same) (prints-stop [] begun is)

-- a failure in the first bytes is a failure in more of them
pub prints-longer : {D T : Type 0} {told : D → DeskState} {xs : List ℕ} (ys : List ℕ) {first second : Sheet D}
    {error : PutError}
    → Prints {T = T} told xs first second (Err error) → Prints {T = T} told (xs ++ ys) first second (Err error)
prints-longer ys begun = prints-stop ys begun refl

-- what is printed keeps the sheet writable
pub can-print-after : {D T : Type 0} {told : D → DeskState} {bytes : List ℕ} {old new : Sheet D} {result : Result T
    PutError}
    → CanPrint told old → Prints told bytes old new result → CanPrint told new
can-print-after can prints = can-after can prints.puts

-- what proves that bytes are printed call by call
pub ruleset printing = (prints-then, prints-stop, can-print-after)
