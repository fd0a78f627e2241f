-- What a translation of plain texts prints is braced.
use Rattle.cw_brace_laws.proofs.Terms.{IsPlainText, rows-braced, productions-sound, translated}
use Rattle.cw_brace_laws.proofs.{PlainRows.text-clean, Prints.prints-braced, Translations.translation-braced}
use Rattle.cw_brace_laws.proofs.laws.plain_text_law.Goals as goal

pub returns : goal.returns
returns c = λ flags named answers names marks plain. prints-braced (translated flags named answers names marks).tree
    (translation-braced productions-sound rows-braced flags IsPlainText
    (text-clean flags) named answers names marks plain)
