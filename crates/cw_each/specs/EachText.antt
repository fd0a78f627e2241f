-- The C texts of a book, translated one after another.
use Rattle.std.specs.Prelude.{ℕ, List, [], ◌∷◌}
use Rattle.cw_base.specs.Flags.{start_flags}
use Rattle.cw_base.specs.declared.flags.Flags.{Flags}
use Rattle.cw_names.specs.Names.{Entry}
use Rattle.cw_phase1.specs.declared.book.Book.{Book}
use Rattle.cw_secnames.specs.Kept.{SecName}
use Rattle.cw_secnames.specs.Uses.{NameUse}
use Rattle.cw_texts.specs.declared.text_list.TextRef.{TextRef}
use Rattle.cw_texts.specs.Scans.{scanned}
use Rattle.cw_translator.specs.NameParts.{name_texts}
use Rattle.cw_translator.specs.Translating.{Ended, translated}

-- What stays while texts are translated: the web's text, the flags, the section names that are kept, and where they
-- stand.
pub record TextSource : Type 0 where
  pub text : List ℕ
  pub flags : Flags
  pub sec_names : List SecName
  pub name_uses : List NameUse

-- the translation of a text that begins with these names and with no marks
abbrev pub text_ended : TextSource → TextRef → List Entry → Ended
text_ended s text names =
    translated s.flags (name_texts s.sec_names s.name_uses) (scanned text.mode s.text text.span) names []

-- a text, and what its translation gives
pub record EndedText : Type 0 where
  pub text : TextRef
  pub ended : Ended

abbrev pub with_ended : TextRef → Ended → (List Entry → List EndedText) → List EndedText
with_ended text ended later = record { text = text; ended = ended } ∷ later ended.known.names

-- Each text begins with the names that the one before it leaves.
abbrev pub each_text : TextSource → List TextRef → List Entry → List EndedText
each_text s [] names = []
each_text s (text ∷ texts) names = with_ended text (text_ended s text names) (each_text s texts)

-- what stays while the texts of a book are translated, with the flags of the start
abbrev pub book_source : List ℕ → Book → TextSource
book_source text b = record {
  text = text;
  flags = start_flags;
  sec_names = b.sec_names;
  name_uses = b.name_uses;
}
