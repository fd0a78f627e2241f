-- One definition is whole, and then the next; where one isn't, not all are.
use Rattle.cw_part.proofs.Terms.{◌≡◌, subst, true, All, All-cons, All-head, All-rest, All-same, IsWholeDefinition}
use Rattle.cw_part.proofs.whole.are_whole.Goals as goal

pub loop-definition-preserved : goal.loop-definition-preserved
loop-definition-preserved c = record {
  whole = λ whole. c.loop-definition.invariant.whole (All-same (IsWholeDefinition c.args.text.now) _ _ c.in-Some.ensures
      (All-cons (IsWholeDefinition c.args.text.now) _ _ (c.is_whole.ensures.whole c.if-not-is_whole.false) whole));
  only = λ whole. All-rest (IsWholeDefinition c.args.text.now) _ _ _ c.in-Some.ensures
      (c.loop-definition.invariant.only whole);
}

pub returns-then-not-is_whole-clause-only : goal.returns-then-not-is_whole-clause-only
returns-then-not-is_whole-clause-only c = λ whole.
    let yes : c.is_whole.result ≡ true = c.is_whole.ensures.only (All-head (IsWholeDefinition c.args.text.now) _ _
    (subst (All (IsWholeDefinition c.args.text.now)) c.in-Some.ensures (c.loop-definition.invariant.only whole))) in cc
