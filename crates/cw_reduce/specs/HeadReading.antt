-- The head of a text, as it is read from the scanner's answers.
use Rattle.std.specs.Prelude.{◌≡◌, List, [], ◌∷◌, ◌++◌}
use Rattle.cw_base.specs.declared.category.Cat.TheVariants as cat
use Rattle.cw_base.specs.declared.flags.Flags.{Flags}
use Rattle.cw_base.specs.declared.mode.MathMode.TheVariants.{Text}
use Rattle.cw_rules.specs.Answers.{Seen}
use Rattle.cw_lex.specs.Heads.{Head, Macro, Format, Silent, Named}
use Rattle.cw_names.specs.Names.{Entry}
use Rattle.cw_tokens.specs.declared.token.Token.{Token as StoredToken}
use Rattle.cw_scraps.specs.declared.line.LineEntry.{LineEntry}
use Rattle.cw_scraps.specs.Lines.{scraps_of}
use Rattle.cw_reduce.specs.declared.heads.HeadRead.{HeadRead}
use Rattle.cw_reduce.specs.declared.heads.HeadRead.TheVariants as read
use Rattle.cw_translator.specs.Translating.{NameTexts, Known, Made}
use Rattle.cw_translator.specs.Translating.{sign_behind, spelled, texts_named}

-- The line of scraps that a head makes. That of a named C part is made from its name.
abbrev pub head_line : HeadRead → List LineEntry
head_line (read.Dead list) = record { cat = cat.Dead; list = list; left = Text; right = Text } ∷ []
head_line head = []

-- what a head makes, where these are the lists of the store
abbrev pub read_made : Flags → NameTexts → List (List StoredToken) → HeadRead → Known → Made
read_made flags named lists (read.Named number sign) known =
    texts_named flags (named number) cat.Dead Text (sign_behind sign) number known
read_made flags named lists head known = record { scraps = scraps_of lists (head_line head); items = []; known = known }

-- the words of a head
abbrev pub words_in : Head → List Seen
words_in (Macro number words) = words
words_in (Format number words) = words
words_in (Silent words) = words
words_in head = []

-- Names as the first of these words leave them.
pub record NamesWithin (words : List Seen) (names new : List Entry) : Type 0 where
  pub first : List Seen
  pub later : List Seen
  pub are : first ++ later ≡ words
  pub is : new ≡ (spelled first names).names
