-- What is told of the tokens that came, and what one token more adds.
use Rattle.std.specs.Prelude.{◌<◌, ◌++◌, Bool, false, List, [], ◌∷◌, None, map, length, IfSome, if◌then◌else◌}
use Rattle.cw_base.specs.Web.{MergedLine}
use Rattle.cw_names.specs.Names.{Entry}
use Rattle.cw_phase1.specs.declared.token_lists.TokenLists.{TokenLists}
use Rattle.cw_phase1.specs.declared.name_lists.NameLists.{NameLists}
use Rattle.cw_phase1.specs.declared.words.Words.{Words}
use Rattle.cw_phase1.specs.Roles.{Placement}
use Rattle.cw_names.specs.Words.{built_in_words}
use Rattle.cw_phase1.specs.declared.roles.Role.{Role}
use Rattle.cw_names.specs.declared.xrefs.Occurrence.{Occurrence}
use Rattle.cw_phase1.specs.Words.{KnownNames, known_behind, mention_by, waits_behind, occurrence, word}
use Rattle.cw_phase1.specs.Uses.{use_of, reference_by}
use Rattle.cw_phase1.specs.model.Outlining.{section_told}

abbrev pub known_of : Words → KnownNames
known_of w = record { first = w.first; names = w.names }

-- A token that has this role in its place. A name that occurs has its place from its first occurrence on.
abbrev pub told_as : Role → Placement → Words → Words
told_as role p w = record {
  names = (known_behind role p.token.text (known_of w)).names;
  first = (known_behind role p.token.text (known_of w)).first;
  waits = waits_behind role w.waits;
  xrefs = w.xrefs ++ map (occurrence w.names) (mention_by role p w.waits);
}

abbrev pub word_told : Placement → Words → Words
word_told p w = told_as p.role p w

-- The first name of a format definition is one of the names.
abbrev pub IsKnown : Words → Type 0
IsKnown w = IfSome w.first (λ id. id.index < length w.names)

abbrev pub named_told : Placement → NameLists → NameLists
named_told p n = record { uses = n.uses ++ use_of p; references = n.references ++ reference_by p.role p.name p.section }

abbrev pub told_step : List MergedLine → Placement → TokenLists → TokenLists
told_step lines p t = record {
  words = word_told p t.words;
  named = named_told p t.named;
  sections = section_told lines p t.sections;
}

abbrev pub told_all : List MergedLine → List Placement → TokenLists → TokenLists
told_all lines [] t = t
told_all lines (p ∷ ps) t = told_all lines ps (told_step lines p t)

-- the occurrence of an identifier that isn't silent
abbrev pub word_occurrence : Bool → Bool → Placement → List Entry → List Occurrence
word_occurrence silent waits p names = if silent then [] else occurrence names (word p waits) ∷ []

-- nothing is told yet
abbrev pub told_start : TokenLists
told_start = record {
  words = record { names = built_in_words; first = None; waits = false; xrefs = [] };
  named = record { uses = []; references = [] };
  sections = record { closed = []; open_one = None; limbo_end = None };
}
