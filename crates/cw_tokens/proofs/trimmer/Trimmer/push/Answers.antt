-- The trimmer stands for one item more: it goes into the gap, or the gap is settled and the item stays.
use Rattle.cw_tokens.proofs.Terms.{◌≡◌, ◌≤◌, false, ◌&&◌, eqb, length, sym, ◌∙◌, subst, arith, is_break, item_is}
use Rattle.cw_tokens.proofs.Terms.{StandsFor, Trims}
use Rattle.cw_tokens.proofs.Standing.{no-beginning, not-both, not-same, stands-longer, stands-opened, stands-other}
use Rattle.cw_tokens.proofs.trimmer.Trimmer.push.Goals.{else-self-via-then-self+else-breaks, else-self-via-else-self}
use Rattle.cw_tokens.proofs.trimmer.Trimmer.push.Goals as goal

pub returns-then-gaps : goal.returns-then-gaps
returns-then-gaps c = λ given stands.
    let none : (eqb c.self.inside.gap c.self.inside.text && is_break (item_is c.args.item)) ≡ false =
    elim c.else-self.branch [
      | else-self-via-then-self+else-breaks w ↦ not-both _ _ (sym w.breaks.ensures ∙ w.if-breaks.false)
      | else-self-via-else-self w ↦ no-beginning _ _ (not-same _ _ w.if-self.false)
    ] in
    rw c.in_ok-push.ensures.items
    (stands-longer c.self.inside.gap c.self.inside.items.items _ c.args.item given c.self.invariant.0
    (subst (λ (t : Trims). StandsFor t given) (sym c.self.view_is) stands) (sym c.gaps.ensures ∙ c.if-gaps.true) none)

pub returns-in-Open : goal.returns-in-Open
returns-in-Open c = λ given stands. rw (c.len-self-inside.ensures, c.push-2.new.self.ok.0, c.in_ok-push-2.ensures.items)
    (stands-opened c.self.inside.gap c.self.inside.items.items _ c.args.item given c.self.invariant.0
    (subst (λ (t : Trims). StandsFor t given) (sym c.self.view_is) stands) c.end_gap.new.items.items (sym c.gaps.ensures
    ∙ c.if-gaps.false) (sym c.inserted.ensures ∙ c.if-inserted.false) c.end_gap.ensures.items c.in-Open.is)

pub returns-in_default : goal.returns-in_default
returns-in_default c = λ given stands.
    let behind : c.self.inside.gap ≤ length c.end_gap.new.items.items = c.end_gap.ensures.within in
    let before : c.self.inside.text ≤ c.self.inside.gap = c.self.invariant.1 in
    rw (c.len-self-inside.ensures, c.push-2.new.self.ok.0, c.in_ok-push-2.ensures.items) (stands-other c.self.inside.gap
    c.self.inside.items.items _ c.args.item given c.self.invariant.0 (subst (λ (t : Trims). StandsFor t given) (sym
    c.self.view_is) stands) c.end_gap.new.items.items (sym c.gaps.ensures ∙ c.if-gaps.false) (sym c.inserted.ensures
    ∙ c.if-inserted.false) c.end_gap.ensures.items c.self.inside.text (omega arith) c.in_default.not-Open)
