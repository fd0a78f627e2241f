-- How much is read of the files that are opened: one call after another, and one file after another.
use Rattle.std.proofs.Common.{◌≡◌, ◌≢◌, ℕ, ◌+◌, ◌<◌, ◌≤◌, List, [], ◌∷◌, ◌++◌, length, sum_by, ◌∙◌, arith, Some, Result}
use Rattle.std.proofs.Common.{OnOk}
use Rattle.std.proofs.{lemmas.List.Sums.sum_by-append, lemmas.Bool.Decides.nat_tests}
use Rattle.std.specs.FinMap.{get}
use Rattle.cw_base.specs.declared.limits.TheConstants.{INPUT_LIMIT}
use Rattle.cw_desk.specs.{Meaning.Files, State.DeskState, State.Narrows, State.Opens}
use Rattle.cw_desk.specs.declared.{desk.FileId.FileId, desk.Opened.TheVariants.File}
use Rattle.cw_input.specs.Reading.{AreRead, CameAtMost, HasRead, ReadsAtMost, ReadsFirst, ReadsOn, ReadsOnly, ReadsTo}
use Rattle.cw_input.specs.model.State.{Moves}
use Rattle.cw_input.specs.declared.{error.LoadError.LoadError, found.InputFile.InputFile, merger.Merger.Merger}

-- all files from the first on have been read
are_read-count : (files : Files) (told : DeskState) (first : ℕ) (read : List (List ℕ)) → AreRead files told first read
    → told.opened ≡ first + length read
are_read-count files told first [] each = omega (arith, each)
are_read-count files told first (bytes ∷ more) each = grind (arith, are_read-count files told (first + 1) more each.1)

-- what is unread of the files that were open
abbrev SameRests : Files → DeskState → DeskState → Type 0
SameRests files old new = (i : ℕ) → i < old.opened → new.rest files i ≡ old.rest files i

are_read-same : (files : Files) (old new : DeskState) (first : ℕ) (read : List (List ℕ)) → new.opened ≡ old.opened
    → SameRests files old new → AreRead files old first read → AreRead files new first read
are_read-same files old new first [] opened same each = opened ∙ each
are_read-same files old new first (bytes ∷ more) opened same each =
    grind (arith, are_read-same files old new (first + 1) more opened same each.1, are_read-count)

-- a file more is opened and read
are_read-more : (files : Files) (old new : DeskState) (first : ℕ) (read : List (List ℕ)) (last : List ℕ)
    → SameRests files old new → AreRead files new old.opened (last ∷ []) → AreRead files old first read
    → AreRead files new first (read ++ last ∷ [])
are_read-more files old new first [] last same done each = grind arith
are_read-more files old new first (bytes ∷ more) last same done each =
    grind (arith, are_read-more files old new (first + 1) more last same done each.1, are_read-count)

sum-more : (read : List (List ℕ)) (last : List ℕ) → sum_by length (read ++ last ∷ []) ≡ sum_by length read + length last
sum-more read last = grind (arith, sum_by-append length read (last ∷ []))

has_read-more : {files : Files} {first a b : ℕ} {told : DeskState} → a ≤ b → HasRead files first a told
    → HasRead files first b told
has_read-more {a = a} {b = b} more had = grind (arith, sum_by)

pub reads_on-none : (sum : ℕ) (told : DeskState) → ReadsOn sum sum told told
reads_on-none sum told = record { came = omega arith; most = λ files is first had. had }

pub reads_on-same : (sum : ℕ) {old new : DeskState} → new.opened ≡ old.opened → new.came ≡ old.came
    → ((files : Files) → SameRests files old new) → ReadsOn sum sum old new
reads_on-same sum {old = old} {new = new} opened came same = grind (arith, are_read-same)

pub reads_on-then : {a b c : ℕ} {first second third : DeskState} → Narrows second third → ReadsOn a b first second
    → ReadsOn b c second third → ReadsOn a c first third
reads_on-then narrows begun ended = grind arith

pub reads_on-more : {a b c : ℕ} {old new : DeskState} → b ≤ c → ReadsOn a b old new → ReadsOn a c old new
reads_on-more more reads = grind (arith, has_read-more)

pub reads_on-from : {a b c : ℕ} {old new : DeskState} → a ≤ b → ReadsOn b c old new → ReadsOn a c old new
reads_on-from more reads = grind (arith, has_read-more)

-- calls that begin with no more than the first had read, and go on with no less than it left
pub reads_on-both : {a b c d e : ℕ} {first second third : DeskState} → a ≤ b → c ≤ d → Narrows second third
    → ReadsOn b c first second → ReadsOn d e second third → ReadsOn a e first third
reads_on-both before between narrows begun ended =
    reads_on-from before (reads_on-then narrows begun (reads_on-from between ended))

other : (i index before : ℕ) → index ≡ before → i < before → i ≢ index
other i index before is less same = omega (arith, is, less, same)

-- a file is opened and read
pub reads_on-file : (sum most : ℕ) {name : List ℕ} {id : FileId} {first second third : DeskState}
    → Opens name (File id) first second → ReadsOnly id.index second third → CameAtMost most second third
    → ((files : Files) → third.agrees files → ReadsAtMost most (second.rest files id.index) (third.rest files id.index))
    → ReadsOn sum (sum + most) first third
reads_on-file sum most {name = name} {id = id} {first = first} {second = second} {third = third} opens same came reads =
    record {
      came = omega (arith, opens.same_came, came);
      most = λ files is from had.
          let of_file = reads files is in
          let within : sum_by length had.read ≤ sum = had.within in
          let text : get files name ≡ Some (of_file.0 ++ third.rest files first.opened) = grind (arith, nat_tests) in
          record {
            read = had.read ++ of_file.0 ∷ [];
            each = are_read-more files first third from had.read of_file.0
                (λ i less. same.other_rests files i (other i id.index first.opened opens.next.0 less)
                ∙ opens.same_rests files i less) ((name, text), same.same_opened ∙ opens.next.1) had.each;
            within = omega (arith, sum-more had.read of_file.0, within, of_file.2);
          };
    }

-- ## Answers

-- nothing more is read
pub reads_on-kept : {a b : ℕ} (told : DeskState) → a ≤ b → ReadsOn a b told told
reads_on-kept {a = a} told less = reads_on-more {b = a} less (reads_on-none a told)

-- a call that reads nothing after others
pub reads_to-kept : {T : Type 0} {a : ℕ} (m new : Merger) {old now : DeskState} (result : Result T LoadError)
    → OnOk result
    (Moves 0 0 0 0 m new) → m.sum ≤ INPUT_LIMIT → ReadsOn a m.sum old now → ReadsTo a new.sum old now result
reads_to-kept m new result moves less reads = grind (arith, reads_on-more)

-- whatever is answered, at most one byte more than the limit on input
pub reads_to-within : {T : Type 0} {a : ℕ} (text files text_left files_left : ℕ) (m new : Merger) {old now : DeskState}
    (result : Result T LoadError) → OnOk result (Moves text files text_left files_left m new)
    → ReadsTo a new.sum old now result → ReadsOn a (INPUT_LIMIT + 1) old now
reads_to-within text files text_left files_left m new result moves reads = grind (arith, reads_on-more)

-- the file was not there under the first name
pub reads_first-then : {first second : DeskState} (third : DeskState) (result : Result InputFile LoadError)
    → Narrows second third
    → ReadsOn 0 0 first second → ReadsFirst second third result → ReadsFirst first third result
reads_first-then third result narrows begun ended = grind (arith, reads_on-then)
