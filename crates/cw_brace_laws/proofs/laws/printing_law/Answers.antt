-- What a braced tree prints is braced, and so is what a translation prints.
use Rattle.cw_brace_laws.proofs.Terms.{HasCleanOperators, rows-braced, productions-sound, translated}
use Rattle.cw_brace_laws.proofs.{Prints.prints-braced, Translations.translation-braced}
use Rattle.cw_brace_laws.specs.BraceLaws.{TranslationsPrintBraced}
use Rattle.cw_brace_laws.proofs.laws.printing_law.Goals as goal

translations : TranslationsPrintBraced
translations flags named answers names marks clean = prints-braced (translated flags named answers names marks).tree
    (translation-braced productions-sound rows-braced flags (HasCleanOperators flags) (λ state h leaves. h) named
    answers names marks clean)

pub returns : goal.returns
returns c = record { trees = prints-braced; translations = translations }
