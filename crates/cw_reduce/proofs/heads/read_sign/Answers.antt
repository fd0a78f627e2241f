-- A section name with its sign heads a C part; without one it heads nothing, and what was read is handed on.
use Rattle.cw_reduce.proofs.Terms.{◌^◌, ◌<◌, arith, rules, ap, refl, sym, ◌∙◌, stays-trans, seen, nested-behind}
use Rattle.cw_reduce.proofs.HeadMakes.{ahead-of, signed, token-nested, unsigned-other, unsigned-signs, unsigned-token}
use Rattle.cw_reduce.proofs.HeadAnswers.{bare}
use Rattle.cw_reduce.proofs.heads.read_sign.Goals as goal

pub returns-in_default : goal.returns-in_default
returns-in_default c =
    let s = unsigned-signs c.args.reader.now.coming c.next_answer-next.new.reader.coming c.unsigned.result
    c.unsigned.ensures.head c.unsigned.ensures.name c.unsigned.ensures.next
    c.next_answer-next.ensures.gives c.requires.nested c.requires.start
    (unsigned-other (seen c.args.name) c.args.reader.now.coming c.next_answer-next.new.reader.coming
    c.next_answer-next.result c.next_answer-next.ensures.gives c.in_default.not-Token) in
    record {
      head = s.head;
      line = s.line;
      rest = s.rest_is;
      nested = s.nested;
      start = s.starts;
      all = c.next_answer-next.ensures.all;
    }

pub returns-then-not-is_head_sign : goal.returns-then-not-is_head_sign
returns-then-not-is_head_sign c =
    let s = unsigned-signs c.args.reader.now.coming c.next_answer-next.new.reader.coming
    c.unsigned-then-not-is_head_sign.result c.unsigned-then-not-is_head_sign.ensures.head
    c.unsigned-then-not-is_head_sign.ensures.name c.unsigned-then-not-is_head_sign.ensures.next
    c.next_answer-next.ensures.gives c.requires.nested c.requires.start
    (unsigned-token c.args.reader.now.coming c.next_answer-next.new.reader.coming c.in-Token.sign
    c.in-Token.ensures.gives (nested-behind (seen c.args.name) c.args.reader.now.coming c.requires.nested)
    (seen c.args.name) (sym c.is_head_sign.ensures ∙ c.if-not-is_head_sign.true)) in
    record {
      head = s.head;
      line = s.line;
      rest = s.rest_is;
      nested = s.nested;
      start = s.starts;
      all = c.next_answer-next.ensures.all;
    }

pub overflow_cast-result-2 : goal.overflow_cast-result-2
overflow_cast-result-2 c =
    let h : c.in-Token.sign.span.start < 4294967296 = (rw c.in-Token.ensures.gives at
    ((bare c.args.reader.now.coming).starts (2 ^ 32) c.requires.start.1)).0 in
    first_of (search rules, omega (arith, h))

pub returns : goal.returns
returns c =
    let behind = nested-behind (seen c.args.name) c.args.reader.now.coming c.requires.nested in
    let sign = signed c.args.reader.now.coming c.next_answer-next.new.reader.coming c.in-Token.sign
    c.in-Token.ensures.gives behind (seen c.args.name) (sym c.is_head_sign.ensures ∙ c.if-not-is_head_sign.false) in
    let ahead = ahead-of c.next_answer-next.new.reader.coming c.next_answer.new.reader.coming c.next_answer.result
    c.next_answer.ensures.gives (nested-behind (seen c.in-Token.sign) c.next_answer-next.new.reader.coming (token-nested
    c.args.reader.now.coming c.next_answer-next.new.reader.coming c.in-Token.sign c.in-Token.ensures.gives behind))
    (rw c.in-Token.ensures.gives at ((bare c.args.reader.now.coming).starts (2 ^ 32) c.requires.start.1)).1 in
    record {
      head = ap (λ x. x.head) sign;
      line = refl;
      rest = ahead.same ∙ ap (λ x. x.rest) (sym sign);
      nested = ahead.nested;
      start = ahead.starts;
      all = stays-trans _ _ _ c.next_answer-next.ensures.all c.next_answer.ensures.all;
    }
