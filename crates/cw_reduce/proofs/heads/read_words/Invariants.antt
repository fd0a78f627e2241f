-- The words so far, with those to come, are all words of the head, and behind them the same answers are left.
use Rattle.cw_reduce.proofs.Terms.{length, Stays}
use Rattle.cw_reduce.proofs.HeadAnswers.{ReadsWords}
use Rattle.cw_reduce.proofs.heads.read_words.Given as goal

abbrev pub invariant-loop-word : goal.invariant-loop-word
invariant-loop-word l = ReadsWords l.initial.wanted l.initial.reader.coming l.initial.names l.initial.words.items
    l.wanted l.reader.coming l.names l.words.items × Stays l.initial.reader.all l.reader.all

abbrev pub decreases-loop-word : goal.decreases-loop-word
decreases-loop-word l = length l.reader.coming
