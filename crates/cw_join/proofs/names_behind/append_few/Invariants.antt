-- What is appended, and the bytes that are left, are all.
use Rattle.cw_join.proofs.Terms.{◌≡◌, ◌++◌, drop, StaysBefore}
use Rattle.cw_join.proofs.names_behind.append_few.Given as goal

abbrev pub invariant-loop-byte : goal.invariant-loop-byte
invariant-loop-byte l = record {
  bytes : l.out ++ drop l.byte-index l.bytes ≡ l.initial.out ++ l.bytes;
  stays : StaysBefore l.initial.out l.out;
}
