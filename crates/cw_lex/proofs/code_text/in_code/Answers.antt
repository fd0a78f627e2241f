-- What begins here gives what its token gives.
use Rattle.cw_lex.proofs.code_text.in_code.Goals as goal

pub returns-in-Identifier-clause-gives : goal.returns-in-Identifier-clause-gives
returns-in-Identifier-clause-gives c = c.identifier.ensures.gives

pub returns-in-Identifier-clause-ready : goal.returns-in-Identifier-clause-ready
returns-in-Identifier-clause-ready c = c.identifier.ensures.ready

pub returns-in-Constant-clause-gives : goal.returns-in-Constant-clause-gives
returns-in-Constant-clause-gives c = c.give_code.ensures.gives

pub returns-in-Constant-clause-ready : goal.returns-in-Constant-clause-ready
returns-in-Constant-clause-ready c = c.give_code.ensures.ready

pub returns-in-Quoted-clause-gives : goal.returns-in-Quoted-clause-gives
returns-in-Quoted-clause-gives c = c.give_string.ensures.gives

pub returns-in-Quoted-clause-ready : goal.returns-in-Quoted-clause-ready
returns-in-Quoted-clause-ready c = c.give_string.ensures.ready

pub returns-in-LongComment-clause-gives : goal.returns-in-LongComment-clause-gives
returns-in-LongComment-clause-gives c = c.begin_comment.ensures.gives

pub returns-in-LongComment-clause-ready : goal.returns-in-LongComment-clause-ready
returns-in-LongComment-clause-ready c = c.begin_comment.ensures.ready

pub returns-in-ShortComment-clause-gives : goal.returns-in-ShortComment-clause-gives
returns-in-ShortComment-clause-gives c = c.begin_comment-in-ShortComment.ensures.gives

pub returns-in-ShortComment-clause-ready : goal.returns-in-ShortComment-clause-ready
returns-in-ShortComment-clause-ready c = c.begin_comment-in-ShortComment.ensures.ready

pub returns-in-Code-clause-gives : goal.returns-in-Code-clause-gives
returns-in-Code-clause-gives c = c.code_in_code.ensures.gives

pub returns-in-Code-clause-ready : goal.returns-in-Code-clause-ready
returns-in-Code-clause-ready c = c.code_in_code.ensures.ready

pub returns-in-EndOfInner-clause-gives : goal.returns-in-EndOfInner-clause-gives
returns-in-EndOfInner-clause-gives c = c.end_inner.ensures.gives

pub returns-in-EndOfInner-clause-ready : goal.returns-in-EndOfInner-clause-ready
returns-in-EndOfInner-clause-ready c = c.end_inner.ensures.ready

pub returns-in-Sign-clause-gives : goal.returns-in-Sign-clause-gives
returns-in-Sign-clause-gives c = c.give_code-in-Sign.ensures.gives

pub returns-in-Sign-clause-ready : goal.returns-in-Sign-clause-ready
returns-in-Sign-clause-ready c = c.give_code-in-Sign.ensures.ready

pub returns-in-OtherByte-clause-gives : goal.returns-in-OtherByte-clause-gives
returns-in-OtherByte-clause-gives c = c.give_code-in-OtherByte.ensures.gives

pub returns-in-OtherByte-clause-ready : goal.returns-in-OtherByte-clause-ready
returns-in-OtherByte-clause-ready c = c.give_code-in-OtherByte.ensures.ready
