-- A code in TeX text gives what is given of it.
use Rattle.cw_lex.proofs.plain.tex_text.Goals as goal

pub returns-in-Drops-clause-gives : goal.returns-in-Drops-clause-gives
returns-in-Drops-clause-gives c = c.give-in-Drops.ensures.gives

pub returns-in-Drops-clause-ready : goal.returns-in-Drops-clause-ready
returns-in-Drops-clause-ready c = c.give-in-Drops.ensures.ready

pub returns-in-Defines-clause-gives : goal.returns-in-Defines-clause-gives
returns-in-Defines-clause-gives c = c.give-in-Defines.ensures.gives

pub returns-in-Defines-clause-ready : goal.returns-in-Defines-clause-ready
returns-in-Defines-clause-ready c = c.give-in-Defines.ensures.ready

pub returns-in-Formats-clause-gives : goal.returns-in-Formats-clause-gives
returns-in-Formats-clause-gives c = c.give-in-Formats.ensures.gives

pub returns-in-Formats-clause-ready : goal.returns-in-Formats-clause-ready
returns-in-Formats-clause-ready c = c.give-in-Formats.ensures.ready

pub returns-in-BeginsC-clause-gives : goal.returns-in-BeginsC-clause-gives
returns-in-BeginsC-clause-gives c = c.give-in-BeginsC.ensures.gives

pub returns-in-BeginsC-clause-ready : goal.returns-in-BeginsC-clause-ready
returns-in-BeginsC-clause-ready c = c.give-in-BeginsC.ensures.ready
