-- The tree of a translation is braced.
use Rattle.cw_brace_laws.proofs.Terms.{HasCleanOperators, rows-braced, productions-sound}
use Rattle.cw_brace_laws.proofs.Translations.{translation-braced}
use Rattle.cw_brace_laws.proofs.laws.translation_law.Goals as goal

pub returns : goal.returns
returns c = λ flags. translation-braced productions-sound rows-braced flags (HasCleanOperators flags)
    (λ state clean leaves. clean)
