-- A macro's name gives what is given of it.
use Rattle.cw_lex.proofs.plain.macro_name.Goals as goal

pub returns-clause-gives : goal.returns-clause-gives
returns-clause-gives c = c.give.ensures.gives

pub returns-clause-ready : goal.returns-clause-ready
returns-clause-ready c = c.give.ensures.ready
