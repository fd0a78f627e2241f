-- How the entries lie in the hash table.
use Rattle.std.specs.Prelude.{◌≡◌, Bool, true, not, ◌&&◌, nat_eq, List, map}
use Rattle.std.specs.List.{list_all}
use Rattle.std.specs.Cmp.Lexicographic.{pointwise}
use Rattle.cw_base.specs.declared.category.Cat.{Cat}
use Rattle.cw_base.specs.Category.{is_end}
use Rattle.cw_names.specs.declared.entry.Key.{Key}
use Rattle.cw_names.specs.declared.entry.NameQuery.{NameQuery}
use Rattle.cw_names.specs.Names.{Entry, same_kind}
use Rattle.cw_names.specs.Words.{BeginsWithWords}

abbrev pub entry_of : Key × Cat → Entry
entry_of p = record { kind = p.0.kind; text = p.0.text.items; category = p.1 }

-- No entry has the category of tests.
abbrev pub has_no_end_entry : List (Key × Cat) → Bool
has_no_end_entry entries = list_all (λ entry. not (is_end entry.1)) entries

-- What is true of every hash table of names.
pub record AreSound (entries : List (Key × Cat)) : Type 0 where
  pub real : has_no_end_entry entries ≡ true
  pub words : BeginsWithWords (map entry_of entries)

-- Whether a key is the one that is looked for.
abbrev pub is_wanted : NameQuery → Key → Bool
is_wanted wanted key = same_kind wanted.kind key.kind && pointwise nat_eq wanted.text.now key.text.items
