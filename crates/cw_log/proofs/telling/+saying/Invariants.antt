-- The tokens before this one are said. A list refers to earlier lists alone.
use Rattle.cw_log.proofs.Terms.{◌≡◌, ◌+◌, ◌*◌, [], get_or}
use Rattle.cw_log.proofs.SayLaws.{SaidSoFar, token_rank}
use Rattle.cw_log.proofs.telling.+saying.Given as goal

abbrev pub decreases-say : goal.decreases-say
decreases-say l = 2 * l.list.index + 1

abbrev pub decreases-say_token : goal.decreases-say_token
decreases-say_token l = token_rank l.token

abbrev pub invariant-say-loop-token : goal.invariant-say-loop-token
invariant-say-loop-token l = record {
  is : l.token-items ≡ get_or l.store.lists l.fn.list.index [];
  read : SaidSoFar l.store.lists l.token-items l.token-index l.fn.names.items l.names.items;
}
