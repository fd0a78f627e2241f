-- The names before this one are pushed.
use Rattle.cw_log.proofs.Terms.{◌≡◌, ◌+◌, Some, map, take, ident_token}
use Rattle.cw_log.proofs.making.push_names.Given as goal

abbrev pub invariant-loop-name : goal.invariant-loop-name
invariant-loop-name l = record {
  lists : l.store.lists ≡ l.initial.store.lists;
  tokens : l.store.building ≡ Some (map ident_token (take l.name-index l.names));
  spare : l.store.spare + l.name-index ≡ l.initial.store.spare;
}
