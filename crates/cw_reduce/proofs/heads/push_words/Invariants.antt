-- The words so far stand behind what the list held, and each took one place of the room.
use Rattle.cw_reduce.proofs.heads.push_words.Given as goal
use Rattle.cw_translator.proofs.Terms.{◌≡◌, ◌+◌, ◌++◌, take, option_map}

abbrev pub invariant-loop-word : goal.invariant-loop-word
invariant-loop-word l = (l.store.building ≡ option_map (λ tokens. tokens ++ take l.word-index l.words)
    l.fn.store.building) × (l.store.lists ≡ l.fn.store.lists) × (l.store.spare + l.word-index ≡ l.fn.store.spare)
