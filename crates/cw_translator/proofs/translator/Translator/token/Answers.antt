-- A piece of a comment's text is one part more of the innermost comment, and what is open stays sound.
use Rattle.cw_translator.proofs.Terms.{refl, on_ok_weaker}
use Rattle.cw_translator.proofs.LeafSteps.{piece-steps}
use Rattle.cw_translator.proofs.translator.Translator.token.Goals as goal

pub returns-then-eq-clause-translating : goal.returns-then-eq-clause-translating
returns-then-eq-clause-translating c = on_ok_weaker c.add_part.result
    (λ e. (piece-steps c.args.store.now c.args.names.now c.args.self.now
    (record c.args.self.now { nesting = c.add_part.new.self }) c.args.token.now.span.start c.requires.translating e
    (record { scraps = refl; productions = refl })).translating) c.add_part.ensures

pub returns-then-eq-clause-keeps : goal.returns-then-eq-clause-keeps
returns-then-eq-clause-keeps c = on_ok_weaker c.add_part.result (λ e. (piece-steps c.args.store.now c.args.names.now
    c.args.self.now (record c.args.self.now { nesting = c.add_part.new.self }) c.args.token.now.span.start
    c.requires.translating e (record { scraps = refl; productions = refl })).keeps) c.add_part.ensures
