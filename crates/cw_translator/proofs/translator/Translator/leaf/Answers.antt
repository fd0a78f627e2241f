-- The scrap of a token goes behind those of the innermost C text, and its line stays sound.
use Rattle.cw_translator.proofs.Terms.{refl, rules, on_ok_weaker, tied-idle}
use Rattle.cw_rules.specs.Answers.{seen}
use Rattle.cw_translator.proofs.LeafSteps.{leaf-step}
use Rattle.cw_translator.proofs.translator.Translator.leaf.Goals as goal

pub returns : goal.returns
returns c =
    let step = on_ok_weaker c.add_scrap.result (λ e. leaf-step c.args.token.now.kind (seen c.args.token.now)
    c.args.store.now c.scrap_of.new.store c.args.names.now c.scrap_of.new.names c.args.self.now
    (record c.args.self.now { nesting = c.add_scrap.new.self }) c.in_ok-leaf.leaf c.requires.translating
    (tied-idle c.args.store.now c.requires.translating.idle c.tied_law.ensures) c.requires.makes
    c.in_ok-leaf.ensures.idle c.in_ok-leaf.ensures.form c.in_ok-leaf.ensures.names c.in_ok-leaf.ensures.sound e
    (record { scraps = refl; productions = refl })) c.add_scrap.ensures in
    record {
      translating = on_ok_weaker c.add_scrap.result (λ s. s.steps.translating) step;
      progress = on_ok_weaker c.add_scrap.result (λ s. s.progress) step;
      scraps = refl;
      productions = refl;
      keeps = on_ok_weaker c.add_scrap.result (λ s. s.steps.keeps) step;
      names = search rules;
      idle = search rules;
    }
