-- Listed names are woven one after another.
use Rattle.cw_index.proofs.Terms.{◌≡◌, ℕ, ◌+◌, ◌<◌, ◌≤◌, refl, List, drop, length, arith, Ok, Result, slice_index_or}
use Rattle.cw_index.proofs.Terms.{drop_all, drop_more, nat_tests, common_steps, PutError, Entry, AreSums, Weaving}
use Rattle.cw_index.proofs.Terms.{weaving-ended, Counts, Done, done_then, Lasting, Setting, Press, Weaves, Listed}
use Rattle.cw_index.proofs.Terms.{list_setting, all_listed, listed_done}
use Rattle.cw_index.specs.declared.names.ListText.{ListText}

-- the next name, and those behind it
pub listed-next : {s : Setting} {all : Done ℕ} {old now : Press} {counts : Counts} (ls : List Listed) (i : ℕ)
    (d : Listed) → i < length ls → Weaving s (all_listed s (drop i ls)) all old now counts → Weaving s (λ names.
    done_then (listed_done s (slice_index_or ls i d) names) (all_listed s (drop (i + 1) ls))) all old now counts
listed-next {s = s} {all = all} {old = old} {now = now} {counts = counts} ls i d within w = grind (arith, drop_more)

pub listed-end : {s : Setting} {all : Done ℕ} {old now : Press} {counts : Counts} (ls : List Listed) (i : ℕ)
    → length ls ≤ i → Weaving s (all_listed s (drop i ls)) all old now counts → Weaves s all old now (Ok counts)
listed-end {s = s} {all = all} {old = old} {now = now} {counts = counts} ls i ended w =
    grind (arith, nat_tests, common_steps, drop_all i ls ended, weaving-ended, drop_all)

-- What stays of the book is the same before each name.
pub moved : (t : ListText) (l : Listed) (names : List Entry) {before now : Lasting} {old new : Press}
    {result : Result Counts PutError} → now ≡ before → Weaves (list_setting t now) (listed_done (list_setting t now) l
    names) old new result → Weaves (list_setting t before) (listed_done (list_setting t before) l names) old new result
moved t l names {old = old} {new = new} {result = result} same woven = grind arith

abbrev pub sum : Counts → Counts → Counts
sum first more = record { scraps = first.scraps + more.scraps; productions = first.productions + more.productions }

pub sums : (first more : Counts) → AreSums (sum first more) first more
sums first more = record { scraps = refl; productions = refl }
