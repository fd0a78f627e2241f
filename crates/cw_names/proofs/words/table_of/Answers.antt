-- Each word that is put into the hash table is one word more of the table that is read.
use Rattle.cw_names.proofs.Terms.{ap, ◌∙◌, arith, get_or, map, [], RawInt, entry_of, with_word}
use Rattle.cw_names.proofs.Table.{inserted-word, with_table-step, with_table-end}
use Rattle.cw_names.proofs.words.table_of.Goals as goal

pub loop-word-preserved : goal.loop-word-preserved
loop-word-preserved c =
    let word = get_or c.args.words.now c.loop-word.word-index (record { ref_ptr = (0, 0); now = [] }, RawInt) in
    with_table-step c.args.words.now c.loop-word.word-index (record { ref_ptr = (0, 0); now = [] }, RawInt)
    (map entry_of c.loop-word.table.entries) _ _ c.loop-word-test.true (ap (map entry_of) c.in_ok-insert.ensures.entries
    ∙ inserted-word c.in_ok-text.text word.1 c.loop-word.table.entries ∙ ap (λ text. with_word (text, word.1)
    (map entry_of c.loop-word.table.entries)) c.in_ok-text.ensures.items) c.loop-word.invariant

pub returns : goal.returns
returns c = with_table-end c.args.words.now c.loop-word.word-index (map entry_of c.loop-word.table.entries) _
    (omega arith) c.loop-word.invariant
