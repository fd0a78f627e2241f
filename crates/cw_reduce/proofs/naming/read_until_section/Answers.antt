-- One answer more is one step of the reading, up to the section code or to want of memory.
use Rattle.cw_reduce.proofs.Terms.{until_section, advancing-begun, advancing-ended, advancing-next, advancing-stopped}
use Rattle.cw_reduce.proofs.ReadSteps.{starts-next, until-ends, until-goes}
use Rattle.cw_reduce.proofs.naming.read_until_section.Goals as goal
use Rattle.cw_translator.proofs.Terms.{sym, ◌∙◌, answers_in}

pub loop-answer-init : goal.loop-answer-init
loop-answer-init g c = (
  advancing-begun c.args.context.now.flags.now (until_section c.args.lexer.now) c.requires.translating,
  c.requires.start,
)

pub answer-requires : goal.answer-requires
answer-requires g c = record {
  translating = c.loop-answer.invariant.0.reads.translating;
  start = (starts-next 4294967296 c.loop-answer.lexer c.next-answer.new.self c.next-answer.result c.next-answer.ensures
      c.loop-answer.invariant.1).0;
}

pub loop-answer-preserved : goal.loop-answer-preserved
loop-answer-preserved g c = (
  advancing-next (answers_in c.next-answer.result) (until_section c.next-answer.new.self) c.loop-answer.invariant.0
      (until-goes c.loop-answer.lexer c.next-answer.new.self c.next-answer.result c.next-answer.ensures
      (sym c.ends_text.ensures ∙ c.if-ends_text.false)) c.in_ok-answer.ensures,
  (starts-next 4294967296 c.loop-answer.lexer c.next-answer.new.self c.next-answer.result c.next-answer.ensures
      c.loop-answer.invariant.1).1,
)

pub returns-in_err-answer : goal.returns-in_err-answer
returns-in_err-answer g c = advancing-stopped (answers_in c.next-answer.result) (until_section c.next-answer.new.self)
    c.loop-answer.invariant.0
    (until-goes c.loop-answer.lexer c.next-answer.new.self c.next-answer.result c.next-answer.ensures
    (sym c.ends_text.ensures ∙ c.if-ends_text.false)) c.in_err-answer.ensures c.from_residual.ensures.1

pub returns-then-ends_text : goal.returns-then-ends_text
returns-then-ends_text g c = advancing-ended tt c.loop-answer.invariant.0 (until-ends c.loop-answer.lexer
    c.next-answer.new.self c.next-answer.result c.next-answer.ensures (sym c.ends_text.ensures ∙ c.if-ends_text.true))
