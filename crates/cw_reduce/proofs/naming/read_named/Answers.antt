-- One answer more, a section name with its text, is one step of the reading, also where memory is wanting.
use Rattle.cw_reduce.proofs.Terms.{inl, refl, stays-trans, with_texts, answers_in, texts_in, advancing-begun}
use Rattle.cw_reduce.proofs.Terms.{advancing-next, advancing-stopped}
use Rattle.cw_reduce.proofs.ReadSteps.{starts-next}
use Rattle.cw_reduce.proofs.NameSteps.{with-texts-next}
use Rattle.cw_reduce.proofs.naming.read_named.Goals as goal

pub loop-translator-init : goal.loop-translator-init
loop-translator-init g c = (
  advancing-begun c.args.context.now.flags.now (with_texts (texts_in c.args.context.now) c.args.reader.now.coming)
      c.requires.translating,
  c.requires.start,
  inl refl,
)

pub named_answer-requires : goal.named_answer-requires
named_answer-requires g c = record {
  start = (starts-next 4294967296 c.loop-translator.reader.coming c.next-answer.new.self.coming c.next-answer.result
      c.next-answer.ensures.gives c.loop-translator.invariant.1).0;
  kept = c.requires.kept;
  translating = c.loop-translator.invariant.0.reads.translating;
}

pub loop-translator-preserved : goal.loop-translator-preserved
loop-translator-preserved g c = (
  advancing-next (with_texts (texts_in c.args.context.now) (answers_in c.next-answer.result))
      (with_texts (texts_in c.args.context.now) c.next-answer.new.self.coming) c.loop-translator.invariant.0
      (with-texts-next (texts_in c.args.context.now) c.loop-translator.reader.coming c.next-answer.new.self.coming
      c.next-answer.result c.next-answer.ensures.gives) c.in_ok-named_answer.ensures,
  (starts-next 4294967296 c.loop-translator.reader.coming c.next-answer.new.self.coming c.next-answer.result
      c.next-answer.ensures.gives c.loop-translator.invariant.1).1,
  stays-trans _ _ _ c.loop-translator.invariant.2 c.next-answer.ensures.all,
)

pub returns-in_err-named_answer-clause-reads : goal.returns-in_err-named_answer-clause-reads
returns-in_err-named_answer-clause-reads g c = advancing-stopped (with_texts (texts_in c.args.context.now)
    (answers_in c.next-answer.result)) (with_texts (texts_in c.args.context.now) c.next-answer.new.self.coming)
    c.loop-translator.invariant.0 (with-texts-next (texts_in c.args.context.now)
    c.loop-translator.reader.coming c.next-answer.new.self.coming c.next-answer.result c.next-answer.ensures.gives)
    c.in_err-named_answer.ensures c.from_residual.ensures.1
