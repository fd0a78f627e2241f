-- No byte so far is a lower case letter, so those that are left decide.
use Rattle.cw_join.proofs.Terms.{◌≡◌, drop, list_any, is_lower}
use Rattle.cw_join.proofs.naming.has_lower.Given as goal

abbrev pub invariant-loop-byte : goal.invariant-loop-byte
invariant-loop-byte l = list_any is_lower (drop l.byte-index l.name) ≡ list_any is_lower l.name
