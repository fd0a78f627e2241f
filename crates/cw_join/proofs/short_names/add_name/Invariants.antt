-- What is added, and what the rest of the name prints, are what the name prints.
use Rattle.cw_join.proofs.Terms.{◌≡◌, ◌+◌, ◌*◌, ◌≤◌, ◌++◌, drop, array_vec_len, name_bytes}
use Rattle.cw_join.proofs.short_names.add_name.Given as goal

abbrev pub invariant-loop-byte : goal.invariant-loop-byte
invariant-loop-byte l = record {
  items : l.out.items ++ name_bytes (drop l.byte-index l.name) ≡ l.initial.out.items ++ name_bytes l.name;
  len : array_vec_len l.out ≤ array_vec_len l.initial.out + 2 * l.byte-index;
}
