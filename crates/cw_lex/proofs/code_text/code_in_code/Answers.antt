-- What a control code gives is what the token that it makes gives.
use Rattle.cw_lex.proofs.code_text.code_in_code.Goals as goal

pub returns-then-begins_c-clause-gives : goal.returns-then-begins_c-clause-gives
returns-then-begins_c-clause-gives c = c.give.ensures.gives

pub returns-then-begins_c-clause-ready : goal.returns-then-begins_c-clause-ready
returns-then-begins_c-clause-ready c = c.give.ensures.ready

pub returns-else-may_head-clause-gives : goal.returns-else-may_head-clause-gives
returns-else-may_head-clause-gives c = c.give_code.ensures.gives

pub returns-else-may_head-clause-ready : goal.returns-else-may_head-clause-ready
returns-else-may_head-clause-ready c = c.give_code.ensures.ready

pub returns-in-Drops-clause-gives : goal.returns-in-Drops-clause-gives
returns-in-Drops-clause-gives c = c.give_code-in-Drops.ensures.gives

pub returns-in-Drops-clause-ready : goal.returns-in-Drops-clause-ready
returns-in-Drops-clause-ready c = c.give_code-in-Drops.ensures.ready

pub returns-in-Defines-clause-gives : goal.returns-in-Defines-clause-gives
returns-in-Defines-clause-gives c = c.give-in-Defines.ensures.gives

pub returns-in-Defines-clause-ready : goal.returns-in-Defines-clause-ready
returns-in-Defines-clause-ready c = c.give-in-Defines.ensures.ready

pub returns-in-Formats-clause-gives : goal.returns-in-Formats-clause-gives
returns-in-Formats-clause-gives c = c.give-in-Formats.ensures.gives

pub returns-in-Formats-clause-ready : goal.returns-in-Formats-clause-ready
returns-in-Formats-clause-ready c = c.give-in-Formats.ensures.ready

pub returns-in-BeginsC-clause-gives : goal.returns-in-BeginsC-clause-gives
returns-in-BeginsC-clause-gives c = c.give-in-BeginsC.ensures.gives

pub returns-in-BeginsC-clause-ready : goal.returns-in-BeginsC-clause-ready
returns-in-BeginsC-clause-ready c = c.give-in-BeginsC.ensures.ready
