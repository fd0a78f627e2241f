-- Texts that are translated one by one, as they are handed on.
use Rattle.std.specs.Prelude.{◌≡◌, ◌<◌, ℕ, List, [], ◌∷◌, Option, Some, None, length}
use Rattle.cw_names.specs.Names.{Entry}
use Rattle.cw_reduce.specs.WholeTexts.{IsCText, IsTranslated}
use Rattle.cw_rules.specs.Answers.{Answer}
use Rattle.cw_scraps.specs.Marking.{MarkList}
use Rattle.cw_texts.specs.declared.text_list.TextRef.{TextRef}
use Rattle.cw_texts.specs.Scans.{scanned}
use Rattle.cw_tokens.specs.declared.token.Token.{Token}
use Rattle.cw_translator.specs.declared.work.Context.{Context}
use Rattle.cw_each.specs.declared.each.NextText.{NextText}
use Rattle.cw_each.specs.EachText.{TextSource, text_ended}

-- What contracts see of texts in translation: what stays, the texts that are still to come, and of the last one the
-- answers of its scan, the lists of the store that has its tree, and its marks.
pub record Each : Type 0 where
  pub source : TextSource
  pub coming : List TextRef
  pub answers : List Answer
  pub lists : List (List Token)
  pub marks : MarkList

-- what stays while texts of this text are translated
abbrev pub source_in : List ℕ → Context → TextSource
source_in text context = record {
  text = text;
  flags = context.flags.now;
  sec_names = context.sec_names.now;
  name_uses = context.uses.now;
}

-- a text of the web that can be translated
abbrev pub IsWholeRef : List ℕ → TextRef → Type 0
IsWholeRef text ref = IsCText text ref.span ref.mode

-- The next text is the first of those that were to come, and it is translated with these names, into a list of the
-- store; at the end there is none.
pub record HasTranslated (old new : Each) (next : NextText) (names names' : List Entry) (steps steps' : ℕ)
    : Type 0 where
  pub coming : old.coming ≡ next.text ∷ new.coming
  pub answers : new.answers ≡ scanned next.text.mode old.source.text next.text.span
  pub ended : IsTranslated old.source.flags new.lists names' new.marks next.translated steps steps'
      (text_ended old.source next.text names)
  pub list : next.translated.list.index < length new.lists

abbrev pub GivesText : Each → Option NextText → Each → List Entry → List Entry → ℕ → ℕ → Type 0
GivesText old (Some next) new names names' steps steps' = HasTranslated old new next names names' steps steps'
GivesText old None new names names' steps steps' = (old.coming ≡ []) × (names' ≡ names)
