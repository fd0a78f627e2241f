-- What is added, and the bytes that are left, are all.
use Rattle.cw_join.proofs.Terms.{◌≡◌, ◌+◌, ◌++◌, drop, array_vec_len}
use Rattle.cw_join.proofs.short_names.add_all.Given as goal

abbrev pub invariant-loop-byte : goal.invariant-loop-byte
invariant-loop-byte l = record {
  items : l.out.items ++ drop l.byte-index l.bytes ≡ l.initial.out.items ++ l.bytes;
  len : array_vec_len l.out ≡ array_vec_len l.initial.out + l.byte-index;
}
