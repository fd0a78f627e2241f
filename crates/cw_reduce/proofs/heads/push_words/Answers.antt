-- A word refers to no list, so it may stand in the list that is being built.
use Rattle.cw_reduce.proofs.HeadMakes.{word-plain, plain-may}
use Rattle.cw_reduce.proofs.heads.push_words.Goals as goal

pub push-requires-clause-reference : goal.push-requires-clause-reference
push-requires-clause-reference c = plain-may c.loop-word.store _ (word-plain c.args.words.now c.loop-word.word-index _
    c.requires.plain c.loop-word-test.true)
