-- The inner texts of a section name, as the scanner answers them.
use Rattle.std.specs.Prelude.{ℕ, ◌<◌, ◌≤◌, ◌^◌, List, [], All, length, map, option_map}
use Rattle.std.specs.List.{slice_get}
use Rattle.std.specs.Option.{option_and_then}
use Rattle.cw_rules.specs.Answers.{Answer}
use Rattle.cw_rules.specs.declared.tokens.Mode.TheVariants.{Inner}
use Rattle.cw_lex.specs.Lexing.{tokens_of}
use Rattle.cw_lex.specs.Nested.{until_section}
use Rattle.cw_secnames.specs.Kept.{SecName}
use Rattle.cw_secnames.specs.Parts.{inner_parts}
use Rattle.cw_secnames.specs.Uses.{NameUse, name_at}
use Rattle.cw_secnames.specs.declared.kinds.SecKind.{SecKind}
use Rattle.cw_secnames.specs.declared.kinds.SecKind.TheVariants.{Named, File}
use Rattle.cw_translator.specs.Translating.{NameTexts}

-- A section code ends the C text of its part.
abbrev pub parts_of_name : List ℕ → List (List Answer)
parts_of_name text = map (λ span. until_section (tokens_of text span.start span.end Inner)) (inner_parts text)

-- The text of a name of `@<` has parts. That of a name of `@(` has none.
abbrev pub parts_by_kind : SecKind → List ℕ → List (List Answer)
parts_by_kind Named text = parts_of_name text
parts_by_kind File text = []

-- A section name stands for the name that is paired with its place. Without a pair it stands for nothing.
abbrev pub name_texts : List SecName → List NameUse → NameTexts
name_texts kept uses number = option_and_then (λ k. option_map (λ name. parts_by_kind name.kind name.text)
    (slice_get kept k)) (name_at number uses)

-- Each name in a web is one of those that are kept, and none of these is too long to be scanned.
pub record AreNamesOf (kept : List SecName) (uses : List NameUse) : Type 0 where
  pub among : All (λ u. u.name < length kept) uses
  pub short : All (λ name. length name.text ≤ 2 ^ 24) kept
