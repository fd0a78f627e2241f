-- Blanks alone came, so what is left decides.
use Rattle.cw_phase1.proofs.Terms.{◌≡◌, drop, begins_blank}
use Rattle.cw_phase1.proofs.missing.begins_blank.Given as goal

abbrev pub invariant-loop-byte : goal.invariant-loop-byte
invariant-loop-byte l = begins_blank (drop l.byte-index l.bytes) ≡ begins_blank l.bytes
