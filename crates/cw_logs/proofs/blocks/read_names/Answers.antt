-- Each name is added behind those before it.
use Rattle.cw_logs.proofs.Terms.{◌≡◌, [], ◌∷◌, ◌++◌, rules, subst, sym, arith, Ident, place_of, with_entry, HasNames}
use Rattle.cw_logs.proofs.Terms.{HasName, NoName}
use Rattle.cw_logs.proofs.{Adding.one-added, NameSteps.NamesSoFar, NameSteps.one-name, NameSteps.all-names}
use Rattle.cw_logs.proofs.blocks.read_names.Goals as goal

pub returns-in_err-push-clause-kept : goal.returns-in_err-push-clause-kept
returns-in_err-push-clause-kept c = grind (arith, one-added)

pub loop-cut-preserved : goal.loop-cut-preserved
loop-cut-preserved c =
    let is : c.find_or_add.new.self ≡ with_entry Ident c.in-Some.cut.word.now c.loop-cut.names = search rules in
    let place : c.in_ok-id.id.index ≡ place_of Ident c.in-Some.cut.word.now c.loop-cut.names = search rules in
    let pushed : c.push.new.self.items ≡ c.loop-cut.ids.items ++ c.in_ok-id.id ∷ [] = search rules in
    let name : HasName c.loop-cut.rest.now c.in-Some.cut.word.now c.in-Some.cut.rest.now = search rules in
    record {
      kept = one-added _ _ _ _ c.loop-cut.invariant.kept is;
      read = subst (λ ids. NamesSoFar c.args.names.now
          c.find_or_add.new.self c.args.text.now ids c.in-Some.cut.rest.now) (sym pushed) (one-name _ c.loop-cut.names
          c.find_or_add.new.self _ _ _ _ c.loop-cut.ids.items _ c.loop-cut.invariant.read name is place);
    }

pub returns-clause-ok : goal.returns-clause-ok
returns-clause-ok c =
    let none : NoName c.loop-cut.rest.now = search rules in
    subst (λ ids. HasNames c.args.names.now c.loop-cut.names c.args.text.now ids) (sym c.from_vec.ensures) (all-names
    _ c.loop-cut.names c.args.text.now c.loop-cut.rest.now c.loop-cut.ids.items c.loop-cut.invariant.read none)
