-- Which lists of a store are made plain.
use Rattle.std.specs.Prelude.{◌≡◌, ◌<◌, ℕ, List, length}
use Rattle.cw_base.specs.declared.flags.Flags.{Flags}
use Rattle.cw_base.specs.declared.span.Span.{Span}
use Rattle.cw_names.specs.Names.{Entry}
use Rattle.cw_reduce.specs.WholeTexts.{IsCText}
use Rattle.cw_rules.specs.declared.tokens.Mode.TheVariants.{CPart}
use Rattle.cw_secnames.specs.Kept.{SecName}
use Rattle.cw_secnames.specs.Uses.{NameUse}
use Rattle.cw_texts.specs.Scans.{scanned}
use Rattle.cw_tokens.specs.Shapes.{unfolded}
use Rattle.cw_tokens.specs.declared.token.Token.{Token}
use Rattle.cw_translator.specs.NameParts.{AreNamesOf, name_texts}
use Rattle.cw_translator.specs.Translating.{translated}

-- A list of a store has the tree of the C part at a span, which was translated with some flags, from names that have
-- some categories, and behind some marks.
pub record IsPartTree (text : List ℕ) (span : Span) (kept : List SecName) (uses : List NameUse)
    (lists : List (List Token)) (list : ℕ) : Type 0 where
  pub flags : Flags
  pub begun : List Entry
  pub marks : List ℕ
  pub list_is : list < length lists
  pub c_text : IsCText text span CPart
  pub names : AreNamesOf kept uses
  pub tree : unfolded lists list
      ≡ (translated flags (name_texts kept uses) (scanned CPart text span) begun marks).tree
