-- The text from its first answer on is the whole text.
use Rattle.cw_reduce.proofs.Terms.{on_ok_weaker, read-up-behind}
use Rattle.cw_rules.specs.declared.tokens.Lexed.TheVariants as lexed
use Rattle.cw_reduce.proofs.AloneSteps.{gives-again, text-as}
use Rattle.cw_reduce.proofs.HeadMakes.{ahead-of}
use Rattle.cw_reduce.proofs.translating.translate_read.Goals as goal

pub translate_from-requires : goal.translate_from-requires
translate_from-requires g c =
    let a = ahead-of c.args.reader.now.coming c.next_answer-first.new.reader.coming (lexed.Token c.in-Some.token.now)
    (rw c.in-Some.ensures.is at c.next_answer-first.ensures.gives) c.requires.nested c.requires.start in
    record {
      makes = c.in-Some.ensures.makes;
      nested = a.nested;
      start = a.starts;
      kept = c.requires.kept;
      idle = c.requires.idle;
    }

pub returns-in-Some : goal.returns-in-Some
returns-in-Some g c =
    let a = ahead-of c.args.reader.now.coming c.next_answer-first.new.reader.coming (lexed.Token c.in-Some.token.now)
    (rw c.in-Some.ensures.is at c.next_answer-first.ensures.gives) c.requires.nested c.requires.start in
    record {
      read = on_ok_weaker _ (read-up-behind _ _ _ c.next_answer-first.ensures.all) c.translate_from.ensures.read;
      text = text-as _ _ _ _ _ _ a.same c.translate_from.ensures.text;
    }

pub translate_with_head-requires : goal.translate_with_head-requires
translate_with_head-requires g c =
    let a = ahead-of c.args.reader.now.coming c.next_answer-first.new.reader.coming c.next_answer-first.result
    c.next_answer-first.ensures.gives c.requires.nested c.requires.start in
    record {
      gives = gives-again c.args.reader.now.coming c.next_answer-first.new.reader.coming c.next_answer-first.result
          c.next_answer-first.ensures.gives;
      nested = a.nested;
      start = a.starts;
      kept = c.requires.kept;
      idle = c.requires.idle;
    }

pub returns-in-None : goal.returns-in-None
returns-in-None g c = record {
  read = on_ok_weaker _ (read-up-behind _ _ _ c.next_answer-first.ensures.all) c.translate_with_head.ensures.read;
  text = text-as _ _ _ _ _ _ (ahead-of c.args.reader.now.coming c.next_answer-first.new.reader.coming
      c.next_answer-first.result c.next_answer-first.ensures.gives c.requires.nested c.requires.start).same
      c.translate_with_head.ensures.text;
}
