-- Pieces of a file are written one after another.
use Rattle.cw_mini.proofs.Terms.{◌≡◌, ℕ, suc, ◌+◌, ◌-◌, ◌<◌, ap, arith, ◌∙◌, List, [], ◌++◌, append_assoc, Result, Ok}
use Rattle.cw_mini.proofs.Terms.{Err, IsErrAnd, IsTrue, ⊤, flat_map, range_with_len, append-nil, flat_map-cons, Tex}
use Rattle.cw_mini.proofs.Terms.{byte_events, adds-events, adds-none, open-after, piece-stop, piece-then, piece-wanting}
use Rattle.cw_desk.specs.{Meaning.is_open, State.DeskState}
use Rattle.cw_lines.specs.{Writes.Adds, Writes.HasAdded, declared.put_error.PutError.PutError}
use Rattle.cw_lines.specs.{declared.put_error.PutError.TheVariants.Memory}

-- Bytes are written; with the rest they are all.
pub record Writing (rest all : List ℕ) (before now : DeskState) : Type 0 where
  pub done : List ℕ
  pub written : HasAdded (byte_events Tex done) before now
  pub goes : done ++ rest ≡ all
  pub made : IsTrue (is_open now.outputs Tex)

pub writing-next : {T : Type 0} (bytes : List ℕ) {rest all : List ℕ} {before between now : DeskState} {value : T}
    → Writing (bytes ++ rest) all before between → Adds {T = T} (byte_events Tex bytes) between now (Ok value)
    → Writing rest all before now
writing-next bytes {rest = rest} {now = now} w piece = record {
  done = w.done ++ (bytes ++ []);
  written = piece-then Tex w.done (bytes ++ []) w.written
      (piece-then Tex bytes [] piece (adds-none {T = ⊤} now (tt {0})));
  goes = ap (λ (b : List ℕ). (w.done ++ b) ++ rest) (append-nil bytes) ∙ append_assoc w.done bytes rest ∙ w.goes;
  made = open-after Tex w.made piece;
}

-- the piece was refused, and the rest is not written
pub writing-stopped : {T U : Type 0} (bytes rest : List ℕ) {all : List ℕ} {before between now : DeskState} {error :
    PutError}
    {result : Result U PutError} → Writing (bytes ++ rest) all before between → Adds {T = T} (byte_events Tex bytes)
    between now (Err error) → IsErrAnd result (λ found. found ≡ error) → Adds (byte_events Tex all) before now result
writing-stopped bytes rest w piece is = adds-events (ap (byte_events Tex) w.goes)
    (piece-then Tex w.done (bytes ++ rest) w.written (piece-stop Tex bytes rest piece is))

-- memory was wanting before the rest
pub writing-wanting : {U : Type 0} {rest all : List ℕ} {before now : DeskState} {result : Result U PutError}
    → Writing rest
    all before now → IsErrAnd result (λ found. found ≡ Memory) → Adds (byte_events Tex all) before now result
writing-wanting {rest = rest} w is = adds-events (ap (byte_events Tex) w.goes)
    (piece-then Tex w.done rest w.written (piece-wanting Tex rest is))

-- the same rest
pub writing-as : {rest rest' all : List ℕ} {before now : DeskState} → rest ≡ rest' → Writing rest all before now
    → Writing rest' all before now
writing-as same w = rw (← same) w

-- what is left to write of sections behind so many, the first of which comes next
pub left-next : (f : ℕ → List ℕ) (before count : ℕ) → before < count → flat_map f (range_with_len (before + 1)
    (count - before)) ≡ f (before + 1) ++ flat_map f (range_with_len (before + 1 + 1) (count - (before + 1)))
left-next f before count low =
    let one : count - before ≡ suc (count - (before + 1)) = omega arith in
    ap (λ (n : ℕ). flat_map f (range_with_len (before + 1) n)) one
    ∙ flat_map-cons f (before + 1) (range_with_len (before + 1 + 1) (count - (before + 1)))
