-- Each name goes behind those before it.
use Rattle.cw_index.proofs.Terms.{◌+◌, drop, subst, sym, arith, same-sheet, same-then, can-after, weaving-begun}
use Rattle.cw_index.proofs.Terms.{weaving-next, weaving-stopped, weaving-wanting, Lasting, Setting, lasting}
use Rattle.cw_index.proofs.Terms.{list_setting, all_listed, listed_done}
use Rattle.cw_translator.specs.NameParts.{AreNamesOf}
use Rattle.cw_index.proofs.ListingLaws.{listed-end, listed-next, moved, sums}
use Rattle.cw_index.proofs.names.put_all_listed.Goals as goal

pub loop-one-init : goal.loop-one-init
loop-one-init g c = record {
  woven = weaving-begun _ _ _
      (record { scraps = c.none-counts.ensures.scraps; productions = c.none-counts.ensures.productions });
  same = same-sheet _;
}

pub put_listed-requires : goal.put_listed-requires
put_listed-requires g c = record {
  can = can-after c.requires.can c.loop-one.invariant.woven.woven.puts;
  short = c.requires.short;
  whole = c.requires.whole c.loop-one.one-index _ c.loop-one-test.true;
  kept = subst (λ (l : Lasting). AreNamesOf l.sec_names l.name_uses)
      (sym c.loop-one.invariant.woven.woven.same) c.requires.kept;
}

pub returns-in_err-more-clause-weaves : goal.returns-in_err-more-clause-weaves
returns-in_err-more-clause-weaves g c =
    let s : Setting = list_setting c.args.t (lasting c.args.book.now) in
    weaving-stopped (listed_done s _) (all_listed s (drop (c.loop-one.one-index + 1) c.args.listed.now)) (listed-next
    c.args.listed.now c.loop-one.one-index _ c.loop-one-test.true c.loop-one.invariant.woven) (moved c.args.t _
    c.loop-one.book.names c.loop-one.invariant.woven.woven.same c.in_err-more.ensures.weaves) c.from_residual.ensures.1

pub returns-in_err-counts-clause-weaves : goal.returns-in_err-counts-clause-weaves
returns-in_err-counts-clause-weaves g c =
    let s : Setting = list_setting c.args.t (lasting c.args.book.now) in
    weaving-wanting (weaving-next (listed_done s _) (all_listed s (drop (c.loop-one.one-index + 1) c.args.listed.now))
    (listed-next c.args.listed.now c.loop-one.one-index _ c.loop-one-test.true c.loop-one.invariant.woven)
    (moved c.args.t _ c.loop-one.book.names c.loop-one.invariant.woven.woven.same c.in_ok-more.ensures.weaves)
    (sums c.loop-one.counts c.in_ok-more.more)) c.from_residual-in_err-counts.ensures.1

pub loop-one-preserved : goal.loop-one-preserved
loop-one-preserved g c =
    let s : Setting = list_setting c.args.t (lasting c.args.book.now) in
    record {
      woven = weaving-next (listed_done s _) (all_listed s (drop (c.loop-one.one-index + 1) c.args.listed.now))
          (listed-next c.args.listed.now c.loop-one.one-index _ c.loop-one-test.true c.loop-one.invariant.woven)
          (moved c.args.t _ c.loop-one.book.names c.loop-one.invariant.woven.woven.same c.in_ok-more.ensures.weaves)
          (record { scraps = c.in_ok-counts.ensures.scraps; productions = c.in_ok-counts.ensures.productions });
      same = same-then c.loop-one.invariant.same c.in_ok-more.ensures.same;
    }

pub returns-clause-weaves : goal.returns-clause-weaves
returns-clause-weaves g c = listed-end c.args.listed.now c.loop-one.one-index (omega arith) c.loop-one.invariant.woven
