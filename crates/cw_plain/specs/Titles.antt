-- The texts of section names by the places at which they stand, and what plain text is made from.
use Rattle.std.specs.Prelude.{ℕ, List, Option, Some, None}
use Rattle.cw_rules.specs.Answers.{Answer}
use Rattle.cw_secnames.specs.Kept.{SecName, shown}
use Rattle.cw_secnames.specs.Uses.{NameUse, name_at}
use Rattle.cw_plain.specs.Pieces.{PlainSource}

abbrev pub text_kept : List SecName → Option ℕ → Option (List ℕ)
text_kept kept None = None
text_kept kept (Some k) = shown (λ name. name.text) k kept

-- The text of the section name at a place: that of the name for which it stands in the book.
abbrev pub titles : List SecName → List NameUse → ℕ → Option (List ℕ)
titles kept uses number = text_kept kept (name_at number uses)

-- what the C text with these answers of the scanner is made plain from
abbrev pub source_by : List Answer → List SecName → List NameUse → PlainSource
source_by answers kept uses = record { answers = answers; titles = titles kept uses }
