-- How a kept name lies in memory.
use Rattle.std.specs.Prelude.{ℕ, ◌<◌, List, [], ◌∷◌}
use Rattle.cw_secnames.specs.declared.kinds.Earliest.{Earliest}
use Rattle.cw_secnames.specs.declared.kinds.Earliest.TheVariants.{Nobody, One, Several}
use Rattle.cw_secnames.specs.declared.kinds.RefKind.{RefKind}
use Rattle.cw_secnames.specs.declared.kinds.RefKind.TheVariants.{Defined, Used, Cited}
use Rattle.cw_secnames.specs.declared.referrers.NameReferrers.{NameReferrers}
use Rattle.cw_secnames.specs.declared.referrers.NameReferrers.TheVariants as names
use Rattle.cw_secnames.specs.declared.referrers.Lists.{Lists as InLists}
use Rattle.cw_secnames.specs.declared.referrers.Referrers.{Referrers}
use Rattle.cw_secnames.specs.declared.referrers.Referrers.TheVariants as referrers
use Rattle.cw_secnames.specs.declared.sec_names.KeptName.{KeptName}
use Rattle.cw_secnames.specs.Kept.{SecName}
use Rattle.cw_secnames.specs.References.{Ascend, with_number}

-- the sections that refer to a name in one way
abbrev pub numbers_of : Referrers → List ℕ
numbers_of referrers.Nobody = []
numbers_of (referrers.One n) = n ∷ []
numbers_of (referrers.More sections) = sections.value.items

-- those of each way
pub record Lists : Type 0 where
  pub defined : List ℕ
  pub used : List ℕ
  pub cited : List ℕ

abbrev pub no_lists : Lists
no_lists = record { defined = []; used = []; cited = [] }

abbrev pub lists_in : InLists → Lists
lists_in l = record { defined = numbers_of l.defined; used = numbers_of l.used; cited = numbers_of l.cited }

abbrev pub lists_of : NameReferrers → Lists
lists_of names.Nobody = no_lists
lists_of (names.Defined n) = record no_lists { defined = n ∷ [] }
lists_of (names.Used n) = record no_lists { used = n ∷ [] }
lists_of (names.Both d u) = record no_lists { defined = d ∷ []; used = u ∷ [] }
lists_of (names.Lists lists) = lists_in lists.value

abbrev pub with_in : RefKind → ℕ → Lists → Lists
with_in Defined section l = record l { defined = with_number section l.defined }
with_in Used section l = record l { used = with_number section l.used }
with_in Cited section l = record l { cited = with_number section l.cited }

-- those of each way ascend
abbrev pub ListsAscend : Lists → Type 0
ListsAscend l = Ascend l.defined × Ascend l.used × Ascend l.cited

abbrev pub listed : RefKind → Lists → List ℕ
listed Defined l = l.defined
listed Used l = l.used
listed Cited l = l.cited

abbrev pub name_of : KeptName → SecName
name_of n = record {
  kind = n.kind;
  text = n.text.items;
  complete = n.complete;
  defined = (lists_of n.referrers).defined;
  used = (lists_of n.referrers).used;
  cited = (lists_of n.referrers).cited;
}

-- the earliest names are among so many
abbrev pub IsWithin : Earliest → ℕ → Type 0
IsWithin Nobody count = Unit {0}
IsWithin (One k) count = k < count
IsWithin (Several k next) count = (k < count) × (next < count)
