-- A file that is written in pieces: its bytes are theirs, one behind the other.
use Rattle.std.specs.Prelude.{◌≡◌, ◌++◌, ℕ, List, Result, Ok, Err, IsErrAnd, IsTrue}
use Rattle.std.proofs.Common.{sym, subst}
use Rattle.cw_base.specs.declared.event.Event.{Event}
use Rattle.cw_base.specs.declared.event.Out.{Out}
use Rattle.cw_desk.specs.Journal.{byte_events}
use Rattle.cw_desk.specs.laws.JournalLaws.{byte_events-append}
use Rattle.cw_desk.specs.Meaning.{is_open}
use Rattle.cw_desk.specs.State.{DeskState}
use Rattle.cw_desk.specs.declared.outputs.Outputs.{Outputs}
use Rattle.cw_lines.specs.Writes.{Adds}
use Rattle.cw_lines.specs.laws.WritesLaws.{adds-events, adds-nothing, adds-stop, adds-then}
use Rattle.cw_lines.specs.declared.put_error.PutError.{PutError}
use Rattle.cw_lines.specs.declared.put_error.PutError.TheVariants.{Memory}

-- what can be written before a piece can be written after it
pub open-after : {T : Type 0} {events : List Event} {a b : DeskState} {result : Result T PutError} (out : Out)
    → IsTrue (is_open a.outputs out) → Adds events a b result → IsTrue (is_open b.outputs out)
open-after out there piece = subst (λ (outputs : Outputs). IsTrue (is_open outputs out)) (sym piece.same.same_outputs)
    there

pub piece-then : {T U : Type 0} {a b c : DeskState} {value : T} {result : Result U PutError} (out : Out)
    (first rest : List ℕ) → Adds {T = T} (byte_events out first) a b (Ok value) → Adds (byte_events out rest) b c result
    → Adds (byte_events out (first ++ rest)) a c result
piece-then out first rest begun ended = adds-events (sym (byte_events-append out first rest)) (adds-then begun ended)

-- the piece was refused, and the rest is not written
pub piece-stop : {T U : Type 0} {a b : DeskState} {error : PutError} {result : Result U PutError} (out : Out)
    (first rest : List ℕ) → Adds {T = T} (byte_events out first) a b (Err error)
    → IsErrAnd result (λ found. found ≡ error) → Adds (byte_events out (first ++ rest)) a b result
piece-stop out first rest begun is = adds-events (sym (byte_events-append out first rest))
    (adds-stop (byte_events out rest) begun is)

-- memory was wanting before a piece
pub piece-wanting : {U : Type 0} {told : DeskState} {result : Result U PutError} (out : Out) (bytes : List ℕ)
    → IsErrAnd result (λ found. found ≡ Memory) → Adds (byte_events out bytes) told told result
piece-wanting out bytes is = adds-nothing (byte_events out bytes) _ is (λ e. cc)
