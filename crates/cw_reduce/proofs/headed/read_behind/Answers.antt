-- A name that was read ahead, the first answer behind it, and then all others are the answers behind the head.
use Rattle.cw_reduce.proofs.Terms.{◌++◌, name_ahead, with_texts, answers_in, texts_in, advancing-begun, advancing-last}
use Rattle.cw_reduce.proofs.Terms.{advancing-next, advancing-stopped}
use Rattle.cw_reduce.proofs.NameSteps.{ahead-advancing, cut-first, starts-ahead, with-texts-append}
use Rattle.cw_reduce.proofs.headed.read_behind.Goals as goal

pub name_ahead-requires-clause-start : goal.name_ahead-requires-clause-start
name_ahead-requires-clause-start g c = (starts-ahead 4294967296 (name_ahead c.args.begun.now.name)
    (answers_in c.args.begun.now.next) c.args.reader.now.coming c.requires.start).0

pub named_answer-requires-clause-start : goal.named_answer-requires-clause-start
named_answer-requires-clause-start g c = (starts-ahead 4294967296 (name_ahead c.args.begun.now.name)
    (answers_in c.args.begun.now.next) c.args.reader.now.coming c.requires.start).1

pub read_named-requires-clause-start : goal.read_named-requires-clause-start
read_named-requires-clause-start g c = (starts-ahead 4294967296 (name_ahead c.args.begun.now.name)
    (answers_in c.args.begun.now.next) c.args.reader.now.coming c.requires.start).2

pub returns-in_err-name_ahead-clause-reads : goal.returns-in_err-name_ahead-clause-reads
returns-in_err-name_ahead-clause-reads g c =
    let named = texts_in c.args.context.now in
    let next = answers_in c.args.begun.now.next in
    advancing-stopped (with_texts named (name_ahead c.args.begun.now.name)) (with_texts named
    (next ++ c.args.reader.now.coming)) (advancing-begun c.args.context.now.flags.now (with_texts named ((name_ahead
    c.args.begun.now.name ++ next) ++ c.args.reader.now.coming)) c.requires.translating) (cut-first named (name_ahead
    c.args.begun.now.name) next c.args.reader.now.coming) c.in_err-name_ahead.ensures c.from_residual.ensures.1

pub returns-in_err-named_answer-clause-reads : goal.returns-in_err-named_answer-clause-reads
returns-in_err-named_answer-clause-reads g c =
    let named = texts_in c.args.context.now in
    advancing-stopped (with_texts named (answers_in c.args.begun.now.next)) (with_texts named c.args.reader.now.coming)
    (ahead-advancing c.args.context.now.flags.now named (name_ahead c.args.begun.now.name)
    (answers_in c.args.begun.now.next) c.args.reader.now.coming c.requires.translating c.in_ok-name_ahead.ensures)
    (with-texts-append named (answers_in c.args.begun.now.next) c.args.reader.now.coming)
    c.in_err-named_answer.ensures c.from_residual-in_err-named_answer.ensures.1

pub returns-clause-reads : goal.returns-clause-reads
returns-clause-reads g c =
    let named = texts_in c.args.context.now in
    advancing-last (advancing-next (with_texts named (answers_in c.args.begun.now.next)) (with_texts named
    c.args.reader.now.coming) (ahead-advancing c.args.context.now.flags.now named (name_ahead c.args.begun.now.name)
    (answers_in c.args.begun.now.next) c.args.reader.now.coming c.requires.translating c.in_ok-name_ahead.ensures)
    (with-texts-append named (answers_in c.args.begun.now.next) c.args.reader.now.coming) c.in_ok-named_answer.ensures)
    c.read_named.ensures.reads
