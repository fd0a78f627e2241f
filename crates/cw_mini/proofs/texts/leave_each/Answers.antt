-- The next text leaves its own.
use Rattle.cw_mini.proofs.Terms.{◌∙◌, subst, sym, Lasting, AreNamesOf}
use Rattle.cw_mini.proofs.LeftLaws.{left-next, whole-at}
use Rattle.cw_mini.proofs.texts.leave_each.Goals as goal

pub leave_text-requires : goal.leave_text-requires
leave_text-requires g c = record {
  whole = whole-at c.args.text.now c.args.texts.now c.loop-i.i c.text_ref.result c.text_ref.ensures c.requires.whole;
  kept = subst (λ (l : Lasting). AreNamesOf l.sec_names l.name_uses) (sym c.loop-i.invariant.same) c.requires.kept;
}

pub loop-i-preserved : goal.loop-i-preserved
loop-i-preserved g c = record {
  left = left-next c.args.text.now c.args.texts.now c.loop-i.i c.text_ref.result c.loop-i.book c.leave_text.new.book _
      c.text_ref.ensures c.in_ok-leave_text.ensures.left c.loop-i.invariant.left;
  same = c.leave_text.ensures.same ∙ c.loop-i.invariant.same;
}
