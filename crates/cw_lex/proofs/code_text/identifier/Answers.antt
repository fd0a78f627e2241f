-- Behind a word C text goes on, so the comments that are open stand in C text.
use Rattle.std.proofs.Common.{sym, ◌∙◌}
use Rattle.cw_lex.proofs.States.{nested-part}
use Rattle.cw_lex.proofs.code_text.identifier.Goals as goal

pub give_word-requires-clause-nested : goal.give_word-requires-clause-nested
give_word-requires-clause-nested c =
    nested-part c.args.state.now.part c.behind_word-next.result c.args.state.now.comments
    (c.behind_word-next.ensures.code c.requires.code ∙ sym c.requires.code) c.requires.step.ready.nested
