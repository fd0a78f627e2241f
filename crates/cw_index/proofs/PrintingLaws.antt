-- Bytes are printed piece by piece.
use Rattle.cw_index.proofs.Terms.{◌≡◌, ℕ, sym, ap, ◌∙◌, List, ◌++◌, append_assoc, arith, Result, Ok, Err, IsErrAnd}
use Rattle.cw_index.proofs.Terms.{append-nil, Printing, DeskState, prints-bytes, prints-none, prints-stop, prints-then}
use Rattle.cw_index.proofs.Terms.{Prints, PutError}
use Rattle.cw_lines.specs.declared.sheet.Sheet.{Sheet}

-- the same bytes, by a call that gives another value
pub print-giving : {D T U : Type 0} {told : D → DeskState} {bytes : List ℕ} {old new : Sheet D} {value : T} (other : U)
    → Prints {T = T} told bytes old new (Ok value) → Prints {T = U} told bytes old new (Ok other)
print-giving {told = told} {new = new} other prints = grind (arith, prints-bytes, append-nil, prints-then, prints-none)

-- the next bytes
pub printing-next : {D T : Type 0} {told : D → DeskState} (xs ys : List ℕ) {all : List ℕ} {old mid new : Sheet D} {value
    : T}
    → Printing told (xs ++ ys) all old mid → Prints {T = T} told xs mid new (Ok value) → Printing told ys all old new
printing-next xs ys p prints =
    grind (arith, print-giving (tt {0}) (prints-then p.put prints), prints-then p.put prints, append_assoc p.done xs ys)

pub printing-stop : {D T U : Type 0} {told : D → DeskState} (xs ys : List ℕ) {all : List ℕ} {old mid new : Sheet D}
    {error : PutError} {result : Result U PutError} → Printing told (xs ++ ys) all old mid → Prints {T = T} told xs mid
    new (Err error) → IsErrAnd result (λ found. found ≡ error) → Prints told all old new result
printing-stop xs ys p prints is =
    prints-bytes (append_assoc p.done xs ys ∙ p.goes) (prints-stop ys (prints-then p.put prints) is)

-- what is left is printed whole
pub printing-end : {D T : Type 0} {told : D → DeskState} {bytes rest all : List ℕ} {old mid new : Sheet D}
    {result : Result T PutError} → rest ≡ bytes → Printing told rest all old mid
    → Prints {T = T} told bytes mid new result → Prints {T = T} told all old new result
printing-end same p prints =
    prints-bytes (ap (λ (bytes : List ℕ). p.done ++ bytes) (sym same) ∙ p.goes) (prints-then p.put prints)

-- the same sheet
pub printing-moved : {D : Type 0} {told : D → DeskState} {rest all : List ℕ} {old mid new : Sheet D} → new ≡ mid
    → Printing told rest all old mid → Printing told rest all old new
printing-moved {told = told} {rest = rest} {all = all} {old = old} is p = grind arith
