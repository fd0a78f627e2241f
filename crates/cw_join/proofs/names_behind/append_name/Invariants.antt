-- What is appended, and what the rest of the name prints, are what the name prints.
use Rattle.cw_join.proofs.Terms.{◌≡◌, ◌++◌, drop, name_bytes, StaysBefore}
use Rattle.cw_join.proofs.names_behind.append_name.Given as goal

abbrev pub invariant-loop-byte : goal.invariant-loop-byte
invariant-loop-byte l = record {
  bytes : l.out ++ name_bytes (drop l.byte-index l.name) ≡ l.initial.out ++ name_bytes l.name;
  stays : StaysBefore l.initial.out l.out;
}
