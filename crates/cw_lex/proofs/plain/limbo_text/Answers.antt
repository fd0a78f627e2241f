-- A code in limbo gives what is given of it.
use Rattle.cw_lex.proofs.plain.limbo_text.Goals as goal

pub returns-in-Formats-clause-gives : goal.returns-in-Formats-clause-gives
returns-in-Formats-clause-gives c = c.give-in-Formats.ensures.gives

pub returns-in-Formats-clause-ready : goal.returns-in-Formats-clause-ready
returns-in-Formats-clause-ready c = c.give-in-Formats.ensures.ready

pub returns-in-Drops-clause-gives : goal.returns-in-Drops-clause-gives
returns-in-Drops-clause-gives c = c.give-in-Drops.ensures.gives

pub returns-in-Drops-clause-ready : goal.returns-in-Drops-clause-ready
returns-in-Drops-clause-ready c = c.give-in-Drops.ensures.ready
