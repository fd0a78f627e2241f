-- The names so far stand behind what the list held, and each took at most three places of the room.
use Rattle.cw_reduce.proofs.Terms.{◌≡◌, ◌+◌, ◌*◌, ◌≤◌, ◌++◌, take, option_map, names_in_text}
use Rattle.cw_reduce.proofs.heads.push_names.Given as goal

abbrev pub invariant-loop-word : goal.invariant-loop-word
invariant-loop-word l = (l.store.building ≡ option_map (λ tokens. tokens ++ names_in_text (take l.word-index l.words))
    l.fn.store.building) × (l.store.lists ≡ l.fn.store.lists) × (l.fn.store.spare ≤ l.store.spare + 3 * l.word-index)
