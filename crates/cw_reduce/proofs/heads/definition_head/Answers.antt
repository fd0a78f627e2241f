-- The words that are read are those of the definition's head, and the answers behind them are what it leaves.
use Rattle.cw_reduce.proofs.Terms.{seen, wanted_by, nested-behind, answer_words, spelled}
use Rattle.cw_reduce.proofs.HeadMakes.{behind, definition-defines, words-plain, definition-rest, definition-within}
use Rattle.cw_reduce.proofs.HeadMakes.{all-within, head-refused}
use Rattle.cw_reduce.proofs.heads.definition_head.Goals as goal
use Rattle.cw_translator.proofs.Terms.{◌++◌, refl, sym, ap, ◌∙◌, tied-idle, answers_in}

pub returns-in_err-next-clause-head : goal.returns-in_err-next-clause-head
returns-in_err-next-clause-head c = head-refused c.from_residual.ensures.1 (definition-within c.args.code.kind
    (seen c.args.code) c.args.reader.now.coming c.args.names.now c.read_words.new.names c.requires.code
    c.requires.nested (rw c.wanted_by-wanted.ensures at c.in_err-next.ensures.no_names)) refl c.requires.idle

pub words_head-requires-clause-plain : goal.words_head-requires-clause-plain
words_head-requires-clause-plain c = words-plain c.wanted_by-wanted.result c.args.reader.now.coming c.args.names.now
    c.read_words.new.words.items c.deref.result.now c.new-words.result.items
    (nested-behind (seen c.args.code) c.args.reader.now.coming c.requires.nested) c.in_ok-next.ensures.words
    c.new-words.ensures.items c.deref.ensures.value

pub returns-in_err-head-clause-head : goal.returns-in_err-head-clause-head
returns-in_err-head-clause-head c = head-refused c.from_residual-in_err-head.ensures.1 (definition-within
    c.args.code.kind (seen c.args.code) c.args.reader.now.coming c.args.names.now c.read_words.new.names c.requires.code
    c.requires.nested (all-within (answer_words (wanted_by c.args.code.kind) c.args.reader.now.coming) c.args.names.now
    c.read_words.new.names (rw c.wanted_by-wanted.ensures at c.in_ok-next.ensures.names)))
    c.in_err-head.ensures.no_lists c.in_err-head.ensures.idle

pub returns-clause-head : goal.returns-clause-head
returns-clause-head c =
    let named = rw c.wanted_by-wanted.ensures at c.in_ok-next.ensures.names in
    let inner = nested-behind (seen c.args.code) c.args.reader.now.coming c.requires.nested in
    let behind_it = definition-rest c.args.code.kind (seen c.args.code) c.args.reader.now.coming
    (answers_in c.in_ok-next.next ++ c.read_words.new.reader.coming) c.requires.code c.requires.nested
    (rw c.wanted_by-wanted.ensures at c.in_ok-next.ensures.rest) in
    let defines = definition-defines c.args.code.kind (seen c.args.code) c.args.reader.now.coming c.args.store.now
    c.words_head.new.store c.args.names.now c.read_words.new.names c.in_ok-head.head c.requires.code inner named
    (tied-idle c.args.store.now c.requires.idle c.tied_law.ensures) c.requires.idle c.words_head.ensures.idle
    (rw (c.deref.ensures.value, c.in_ok-next.ensures.words, c.new-words.ensures.items, c.wanted_by-wanted.ensures) at
    c.in_ok-head.ensures.lists) in
    record {
      made = defines.made;
      spelt = named ∙ ap (λ ws. (spelled ws c.args.names.now).names)
          (sym (behind c.args.code.kind (seen c.args.code) c.args.reader.now.coming c.requires.code inner).words);
      rest = behind_it.1;
      nested = behind_it.0;
      start = c.in_ok-next.ensures.start;
      sound = defines.makes.sound;
      keeps = defines.makes.keeps;
      idle = c.in_ok-head.ensures.idle;
      no_names = tt;
      no_lists = tt;
    }
