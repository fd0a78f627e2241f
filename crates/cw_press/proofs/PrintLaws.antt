-- Bytes are printed one after another.
use Rattle.cw_press.proofs.Terms.{◌≡◌, ℕ, refl, ◌∙◌, List, [], ◌++◌, append_assoc, arith, Result, Ok, Err, IsErrAnd, ⊤}
use Rattle.cw_press.proofs.Terms.{append-nil, DeskState, Prints, prints-bytes, prints-none, prints-stop, prints-then}
use Rattle.cw_press.proofs.Terms.{PutError}
use Rattle.cw_lines.specs.declared.sheet.Sheet.{Sheet}

-- Bytes are printed; with the rest they are all.
pub record Printing {D : Type 0} (told : D → DeskState) (rest all : List ℕ) (old new : Sheet D) : Type 0 where
  pub done : List ℕ
  pub put : Prints {T = ⊤} told done old new (Ok (tt {0}))
  pub goes : done ++ rest ≡ all

pub printing-begun : {D : Type 0} (told : D → DeskState) (all : List ℕ) (sheet : Sheet D) → Printing told all all sheet
    sheet
printing-begun told all sheet = record { done = []; put = prints-none told sheet (tt {0}); goes = refl }

pub printing-next : {D T : Type 0} {told : D → DeskState} {bytes rest all : List ℕ} {old mid new : Sheet D} {value : T}
    → Printing told (bytes ++ rest) all old mid → Prints {T = T} told bytes mid new (Ok value)
    → Printing told rest all old new
printing-next {told = told} {bytes = bytes} {rest = rest} {new = new} p put = record {
  done = p.done ++ bytes;
  put = prints-bytes (append-nil _) (prints-then (prints-then p.put put) (prints-none told new (tt {0})));
  goes = append_assoc p.done bytes rest ∙ p.goes;
}

pub printing-stopped : {D T U : Type 0} {told : D → DeskState} {bytes : List ℕ} (rest : List ℕ) {all : List ℕ}
    {old mid new : Sheet D} {error : PutError} {result : Result U PutError} → Printing told (bytes ++ rest) all old mid
    → Prints {T = T} told bytes mid new (Err error) → IsErrAnd result (λ found. found ≡ error)
    → Prints told all old new result
printing-stopped rest p put is = prints-bytes p.goes (prints-then p.put (prints-stop rest put is))

-- the same rest
pub printing-as : {D : Type 0} {told : D → DeskState} {rest rest' all : List ℕ} {old new : Sheet D} → rest ≡ rest'
    → Printing told rest all old new → Printing told rest' all old new
printing-as same p = grind arith
