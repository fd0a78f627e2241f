-- The identifiers and index entries of a web: which are known after it, with their categories, and where they occur.
use Rattle.std.specs.Prelude.{ℕ, Bool, true, false, List, [], ◌∷◌, ◌++◌, Option, Some, None, map, slice_get}
use Rattle.std.specs.Option.{option_map_or}
use Rattle.cw_base.specs.declared.category.Cat.TheVariants.{Exp}
use Rattle.cw_names.specs.declared.entry.EntryKind.{EntryKind}
use Rattle.cw_names.specs.declared.entry.EntryKind.TheVariants.{Ident}
use Rattle.cw_names.specs.declared.entry.NameId.{NameId}
use Rattle.cw_names.specs.declared.xrefs.Occurrence.{Occurrence}
use Rattle.cw_names.specs.Names as names
use Rattle.cw_phase1.specs.declared.roles.Role.{Role}
use Rattle.cw_phase1.specs.declared.roles.Role.TheVariants as roles
use Rattle.cw_phase1.specs.Roles.{Placement}
use Rattle.cw_rules.specs.ControlTexts.{text_behind_code}

-- ## Names

-- the names, and the first name of the last format definition
pub record KnownNames : Type 0 where
  pub first : Option NameId
  pub names : List names.Entry

abbrev pub name_id : EntryKind → List ℕ → List names.Entry → NameId
name_id kind text entries = record { index = names.place_of kind text entries }

-- The first name of a format definition gets the category of the second.
abbrev pub with_format : Option NameId → NameId → List names.Entry → List names.Entry
with_format None second entries = entries
with_format (Some first) second entries =
    names.with_category first.index (option_map_or (λ entry. entry.category) (slice_get entries second.index) Exp)
    entries

abbrev pub with_word : List ℕ → KnownNames → KnownNames
with_word text k = record k { names = names.with_entry Ident text k.names }

-- Each identifier and each index entry is a name from its first appearance on. A format definition is done behind its
-- second name.
abbrev pub known_behind : Role → List ℕ → KnownNames → KnownNames
known_behind roles.MacroName text k = with_word text k
known_behind roles.Parameter text k = with_word text k
known_behind roles.Word text k = with_word text k
known_behind (roles.FirstName silent) text k =
    record { first = Some (name_id Ident text k.names); names = names.with_entry Ident text k.names }
known_behind (roles.SecondName silent) text k =
    record k { names = with_format k.first (name_id Ident text k.names) (names.with_entry Ident text k.names) }
known_behind (roles.Entry kind) text k = record k { names = names.with_entry kind (text_behind_code text) k.names }
known_behind role text k = k

abbrev pub known_after : List Placement → KnownNames → KnownNames
known_after [] k = k
known_after (p ∷ ps) k = known_after ps (known_behind p.role p.token.text k)

-- ## Occurrences

-- an occurrence in the text
pub record Mention : Type 0 where
  pub kind : EntryKind
  pub text : List ℕ
  pub section : ℕ
  pub underlined : Bool

abbrev pub mention : EntryKind → List ℕ → Placement → Bool → Mention
mention kind text p underlined = record { kind = kind; text = text; section = p.section; underlined = underlined }

abbrev pub word : Placement → Bool → Mention
word p underlined = mention Ident p.token.text p underlined

-- The name after `@d` is underlined, and so is the first identifier or entry behind `@!`, which waits for it across
-- parts and sections. The names of `@s` are no occurrences, but one of them uses up an `@!`.
abbrev pub mention_by : Role → Placement → Bool → List Mention
mention_by roles.MacroName p waits = word p true ∷ []
mention_by roles.Parameter p waits = word p waits ∷ []
mention_by roles.Word p waits = word p waits ∷ []
mention_by (roles.FirstName false) p waits = word p waits ∷ []
mention_by (roles.SecondName false) p waits = word p waits ∷ []
mention_by (roles.Entry kind) p waits = mention kind (text_behind_code p.token.text) p waits ∷ []
mention_by role p waits = []

-- whether an `@!` waits behind a token
abbrev pub waits_behind : Role → Bool → Bool
waits_behind roles.Underline waits = true
waits_behind (roles.Name how) waits = waits
waits_behind roles.SectionCode waits = waits
waits_behind roles.Plain waits = waits
waits_behind role waits = false

abbrev pub mentions_from : Bool → List Placement → List Mention
mentions_from waits [] = []
mentions_from waits (p ∷ ps) = mention_by p.role p waits ++ mentions_from (waits_behind p.role waits) ps

-- An occurrence of the name at its place among all names.
abbrev pub occurrence : List names.Entry → Mention → Occurrence
occurrence entries m = record { name = name_id m.kind m.text entries; section = m.section; underlined = m.underlined }

abbrev pub occurrences : List names.Entry → List Placement → List Occurrence
occurrences entries ps = map (occurrence entries) (mentions_from false ps)
