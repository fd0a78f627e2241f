-- Each C text of a book's sections can be translated by itself.
use Rattle.std.specs.Prelude.{◌^◌, ◌≤◌, All, List, length}
use Rattle.cw_base.specs.Web.{MergedLine, text_of}
use Rattle.cw_phase1.specs.Book.{book}
use Rattle.cw_reduce.specs.WholeTexts.{IsCText}
use Rattle.cw_texts.specs.Texts.{texts_of}

-- It lies in the text of its web and no section code cuts it, whatever the web is, if it is none of the longest.
abbrev pub TextsAreWhole : Type 0
TextsAreWhole = (lines : List MergedLine) → length (text_of lines) ≤ 2 ^ 24
    → All (λ ref. IsCText (text_of lines) ref.span ref.mode)
    (texts_of (text_of lines) (book lines).name_uses (book lines).outline.sections)
