-- What is appended, and the letters of the rest of the name, are the letters of the macro.
use Rattle.cw_join.proofs.Terms.{◌≡◌, ◌++◌, drop, map, StaysBefore, macro_letter}
use Rattle.cw_join.proofs.names_behind.append_macro.Given as goal

abbrev pub invariant-loop-byte : goal.invariant-loop-byte
invariant-loop-byte l = record {
  bytes : l.out ++ map macro_letter (drop l.byte-index l.name) ≡ l.initial.out ++ map macro_letter l.name;
  stays : StaysBefore l.fn.out l.out;
}
