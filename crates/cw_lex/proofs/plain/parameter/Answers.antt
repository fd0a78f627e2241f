-- A token among the parameters gives what is given of it.
use Rattle.cw_lex.proofs.plain.parameter.Goals as goal

pub returns-then-is_letter-clause-gives : goal.returns-then-is_letter-clause-gives
returns-then-is_letter-clause-gives c = c.give.ensures.gives

pub returns-then-is_letter-clause-ready : goal.returns-then-is_letter-clause-ready
returns-then-is_letter-clause-ready c = c.give.ensures.ready

pub returns-then-byte-eq44-clause-gives : goal.returns-then-byte-eq44-clause-gives
returns-then-byte-eq44-clause-gives c = c.give-then-byte-eq44.ensures.gives

pub returns-then-byte-eq44-clause-ready : goal.returns-then-byte-eq44-clause-ready
returns-then-byte-eq44-clause-ready c = c.give-then-byte-eq44.ensures.ready

pub returns-then-byte-eq41-clause-gives : goal.returns-then-byte-eq41-clause-gives
returns-then-byte-eq41-clause-gives c = c.give-then-byte-eq41.ensures.gives

pub returns-then-byte-eq41-clause-ready : goal.returns-then-byte-eq41-clause-ready
returns-then-byte-eq41-clause-ready c = c.give-then-byte-eq41.ensures.ready

pub returns-clause-gives : goal.returns-clause-gives
returns-clause-gives c = c.give-2.ensures.gives

pub returns-clause-ready : goal.returns-clause-ready
returns-clause-ready c = c.give-2.ensures.ready
