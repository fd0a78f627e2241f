-- The scraps of the whole text are a sound line, and its list takes the place of all lists that were open.
use Rattle.cw_translator.proofs.Terms.{refl, sym, ap, subst, IsSoundLine}
use Rattle.cw_translator.proofs.FinishSteps.{last-sound, line-refused, line-ends}
use Rattle.cw_translator.proofs.translator.Translator.close.Goals as goal

pub translate_line-requires : goal.translate_line-requires
translate_line-requires g c = record {
  sound = subst (IsSoundLine c.args.work.now.store.now c.args.work.now.names.now)
      (sym c.take_line-line.ensures) (last-sound c.args.work.now.store.now c.args.work.now.names.now c.args.self.now
      c.args.self.now.nesting c.requires.translating refl);
}

pub returns-in_err-done : goal.returns-in_err-done
returns-in_err-done g c =
    let e = c.in_err-done.ensures in
    line-refused c.take_line-line.ensures
    (record { retypes = e.retypes; bound = e.bound; same = e.same; idle = e.idle; recorded = e.recorded })
    c.from_residual.ensures.1

pub returns-in_err-count : goal.returns-in_err-count
returns-in_err-count g c =
    let e = c.in_ok-done.ensures in
    line-refused c.take_line-line.ensures
    (record { retypes = e.retypes; bound = e.bound; same = e.same; idle = e.idle; recorded = e.recorded })
    c.from_residual-in_err-count.ensures.1

pub returns : goal.returns
returns g c =
    let e = c.in_ok-done.ensures in
    line-ends c.take_line-line.ensures c.in_ok-done.done c.count.new.self.scraps c.count.new.self.productions
    (record { retypes = e.retypes; bound = e.bound; same = e.same; idle = e.idle; recorded = e.recorded }) e.done
    c.requires.translating (ap (λ t. t.scraps) c.in_ok-count.ensures.counted)
    (ap (λ t. t.productions) c.in_ok-count.ensures.counted)
