-- A word that the head wants is one word more; the first answer that is none ends the words.
use Rattle.cw_reduce.proofs.Terms.{◌++◌, ap, sym, ◌∙◌, stays-trans, NamesWithin, answer_words, answers_in, on-err}
use Rattle.cw_rules.specs.declared.tokens.Lexed.TheVariants as lexed
use Rattle.cw_reduce.proofs.HeadAnswers.{ends-other, ends-token, reads-tokens, reads-names, reads-left, reads-starts}
use Rattle.cw_reduce.proofs.HeadAnswers.{reads-word, token-shorter, word-within}
use Rattle.cw_reduce.proofs.heads.read_words.Goals as goal

pub returns-in_default : goal.returns-in_default
returns-in_default c =
    let e = ends-other c.loop-word.wanted c.loop-word.reader.coming c.next_answer-answer.new.reader.coming
    c.next_answer-answer.result c.next_answer-answer.ensures.gives c.in_default.not-Token in
    let read = c.loop-word.invariant.0 in
    record {
      words = reads-tokens read e;
      names = reads-names read e;
      rest = reads-left read e;
      start = reads-starts read c.next_answer-answer.result c.next_answer-answer.new.reader.coming
          c.next_answer-answer.ensures.gives;
      all = stays-trans _ _ _ c.loop-word.invariant.1 c.next_answer-answer.ensures.all;
      no_names = tt;
    }

pub returns-in_default-behind : goal.returns-in_default-behind
returns-in_default-behind c =
    let e = ends-token c.loop-word.wanted c.loop-word.reader.coming c.next_answer-answer.new.reader.coming
    c.in-Token.word c.in-Token.ensures.gives (sym c.behind.ensures ∙ c.in_default-behind.is) in
    let read = c.loop-word.invariant.0 in
    record {
      words = reads-tokens read e;
      names = reads-names read e;
      rest = ap (λ l. answers_in l ++ c.next_answer-answer.new.reader.coming) c.in-Token.is ∙ reads-left read e;
      start = reads-starts read c.next_answer-answer.result c.next_answer-answer.new.reader.coming
          c.next_answer-answer.ensures.gives;
      all = stays-trans _ _ _ c.loop-word.invariant.1 c.next_answer-answer.ensures.all;
      no_names = tt;
    }

pub word_token-requires-clause-start : goal.word_token-requires-clause-start
word_token-requires-clause-start c = (reads-starts c.loop-word.invariant.0
    (lexed.Token c.in-Token.word) c.next_answer-answer.new.reader.coming c.in-Token.ensures.gives).0

pub loop-word-smaller : goal.loop-word-smaller
loop-word-smaller c = token-shorter c.loop-word.reader.coming c.next_answer-answer.new.reader.coming c.in-Token.word
    c.in-Token.ensures.gives

pub loop-word-preserved : goal.loop-word-preserved
loop-word-preserved c = (
  reads-word c.loop-word.invariant.0 c.in-Token.word c.next_answer-answer.new.reader.coming c.in-Token.ensures.gives
      c.in-Some.next (sym c.behind.ensures ∙ c.in-Some.is) c.word_token.new.names c.in_ok-word_token.ensures.names
      c.in_ok-word_token.field-0 c.push.new.self.items c.in_ok-word_token.ensures.token c.in_ok-push.ensures.items,
  stays-trans _ _ _ c.loop-word.invariant.1 c.next_answer-answer.ensures.all,
)

pub returns-in_err-push-clause-no_names : goal.returns-in_err-push-clause-no_names
returns-in_err-push-clause-no_names c = on-err c.from_residual-in_err-push.result
    (NamesWithin (answer_words c.args.wanted c.args.reader.now.coming) c.args.names.now c.word_token.new.names)
    (word-within c.loop-word.invariant.0 c.in-Token.word c.next_answer-answer.new.reader.coming c.in-Token.ensures.gives
    c.in-Some.next (sym c.behind.ensures ∙ c.in-Some.is) c.word_token.new.names c.in_ok-word_token.ensures.names)
