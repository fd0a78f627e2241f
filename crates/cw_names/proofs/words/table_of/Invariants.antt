-- The words that are left, added to what lies in the hash table, give what all words give.
use Rattle.cw_names.proofs.Terms.{◌≡◌, [], drop, map, entry_of, row, with_table}
use Rattle.cw_names.proofs.words.table_of.Given as goal

abbrev pub invariant-loop-word : goal.invariant-loop-word
invariant-loop-word l = with_table (map row (drop l.word-index l.words)) (map entry_of l.table.entries)
    ≡ with_table (map row l.words) []
